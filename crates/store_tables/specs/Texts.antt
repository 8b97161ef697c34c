-- Which rows have texts that can be read.
use Rattle.std.specs.Prelude.{ℕ, ℤ, List, All, IsUtf8}
use Rattle.std.specs.FinMap.{entries}
use Rattle.store_model.specs.Contents.{Contents}
use Rattle.store_model.specs.Entries.{Device, NameNumber, Part, Request, Ring, SeatKey}

-- ---- the texts of a row of each table

-- The text of a row of `ring` is UTF-8.
abbrev pub AreRingTexts : List ℕ × Ring → Type 0
AreRingTexts e = IsUtf8 e.0

-- The texts of a row of `device` are UTF-8.
abbrev pub AreDeviceTexts : NameNumber × Device → Type 0
AreDeviceTexts e = IsUtf8 e.0.0 × IsUtf8 e.1.address × IsUtf8 e.1.name

-- The text of a row of `seat` is UTF-8.
abbrev pub AreSeatTexts : SeatKey × ℤ → Type 0
AreSeatTexts e = IsUtf8 e.0.0

-- The text of a row of `moved` is UTF-8.
abbrev pub AreMovedTexts : NameNumber × ℤ → Type 0
AreMovedTexts e = IsUtf8 e.0.0

-- The texts of a row of `published` are UTF-8.
abbrev pub ArePublishedTexts : NameNumber × List ℕ → Type 0
ArePublishedTexts e = IsUtf8 e.0.0 × IsUtf8 e.1

-- The texts of a row of `request` are UTF-8.
abbrev pub AreRequestTexts : NameNumber × Request → Type 0
AreRequestTexts e = IsUtf8 e.0.0 × IsUtf8 e.1.command × IsUtf8 e.1.reply

-- The text of a row of `part` is UTF-8.
abbrev pub ArePartTexts : NameNumber × Part → Type 0
ArePartTexts e = IsUtf8 e.0.0

-- ---- and those of all rows

-- Each text in the tables is UTF-8.
pub record AreTexts (c : Contents) : Type 0 where
  pub rings : All AreRingTexts (entries c.rings)
  pub devices : All AreDeviceTexts (entries c.devices)
  pub seats : All AreSeatTexts (entries c.seats)
  pub moved : All AreMovedTexts (entries c.moved)
  pub published : All ArePublishedTexts (entries c.published)
  pub requests : All AreRequestTexts (entries c.requests)
  pub parts : All ArePartTexts (entries c.parts)
