-- The lines of devices.
use Rattle.std.proofs.Common.{lit≤, ◌≡◌, ℕ, ◌+◌, ◌^◌, ◌<◌, Bool, true, false, true≢false, List, []}
use Rattle.ring_words.specs.Limits.{greatest_short}
use Rattle.std.proofs.Common.{◌∷◌, ◌++◌, length, get_or, take, drop, map, decimal, Bor, refl, sym}
use Rattle.std.proofs.Common.{ap, ap₂, ◌∙◌, arith}
use Rattle.std.specs.Prelude.{All, ◌==◌}
use Rattle.std.specs.List.{join_with_byte, slice_split}
use Rattle.std.proofs.lemmas.List.{get_or-map, length-map, map_more, map_push}
use Rattle.std.proofs.lemmas.List.Elements.{All-push, All-head, All-tail, All-get_or, All-weaker}
use Rattle.std.proofs.lemmas.List.Elements.{All-from_recursion}
use Rattle.std.proofs.lemmas.List.Splits.{join_with_byte-slice_split}
use Rattle.ring_words.specs.Rows.{IsProperRow}
use Rattle.ring_words.specs.declared.device.Device.{Device}
use Rattle.ring_words.specs.declared.device.Row.{Row}
use Rattle.ring_text.specs.Spelling.{device_line, state_word}
use Rattle.ring_words.specs.Spelling.{SpellsNumber}
use Rattle.ring_text.specs.Inner.Reading.{text_at, IsDevice, IsDeviceLine, AreDeviceLines}
use Rattle.ring_words.proofs.AlikeRows.{same_row}
use Rattle.ring_words.proofs.Spelled.{one_number, one_weight, one_address}
use Rattle.ring_text.proofs.Graphic.{AreGraphic, Lacks, graphic-decimal, graphic-address}
use Rattle.ring_text.proofs.Graphic.{graphic-weight, graphic-state, graphic-device_name}
use Rattle.ring_text.proofs.Graphic.{lacks_of_graphic, parts-joined}

abbrev IsProperDevice : Device → Type 0
IsProperDevice device = IsProperRow device.row

-- eight words, one by one
eight : (ws : List (List ℕ)) → length ws ≡ 8 → ws ≡ text_at ws 0 ∷ text_at ws 1 ∷ text_at ws 2 ∷
    text_at ws 3 ∷ text_at ws 4 ∷ text_at ws 5 ∷ text_at ws 6 ∷ text_at ws 7 ∷ []
eight (a ∷ b ∷ c ∷ d ∷ e ∷ f ∷ g ∷ h ∷ []) l = refl
eight ws l = absurd (omega arith)

pub words_of_device : (ws : List (List ℕ)) (d : Device) → IsDevice ws d → ws ≡ device_line d
words_of_device ws d h = eight ws h.count ∙ rw (
  h.id.is,
  h.region.is,
  h.zone.is,
  h.address.is,
  h.port.is,
  h.weight.is,
  h.state,
  h.name.is,
) refl

limits_of_device : (ws : List (List ℕ)) (d : Device) → IsDevice ws d → IsProperDevice d
limits_of_device ws d h = record {
  region = omega (arith, h.region.below);
  zone = omega (arith, h.zone.below);
  address = h.address.valid;
  port = (h.port.above, omega (arith, h.port.below));
  name = h.name.valid;
  weight = h.weight.valid;
}

number_of : (w : List ℕ) (n : ℕ) → w ≡ decimal n → n < 2 ^ 16 → SpellsNumber w 0 greatest_short n
number_of w n e lt = record { is = e; above = omega arith; below = omega arith }

device_of_words : (ws : List (List ℕ)) (d : Device) → ws ≡ device_line d → d.id < 2 ^ 16 →
    IsProperDevice d → IsDevice ws d
device_of_words ws d e id limits = record {
  count = ap (λ (x : List (List ℕ)). length x) e;
  id = number_of _ d.id (ap (λ (x : List (List ℕ)). text_at x 0) e) id;
  region = number_of _ d.row.region (ap (λ (x : List (List ℕ)). text_at x 1) e) limits.region;
  zone = number_of _ d.row.zone (ap (λ (x : List (List ℕ)). text_at x 2) e) limits.zone;
  address = record { is = ap (λ (x : List (List ℕ)). text_at x 3) e; valid = limits.address };
  port = record {
    is = ap (λ (x : List (List ℕ)). text_at x 4) e;
    above = limits.port.0;
    below =
        omega (arith, limits.port.1);
  };
  weight = record { is = ap (λ (x : List (List ℕ)). text_at x 5) e; valid = limits.weight };
  state = ap (λ (x : List (List ℕ)). text_at x 6) e;
  name = record { is = ap (λ (x : List (List ℕ)). text_at x 7) e; valid = limits.name };
}

small : (n : ℕ) → n < 2 ^ 16 → AreGraphic (decimal n)
small n lt = graphic-decimal n (omega arith)

pub graphic-device : (d : Device) → d.id < 2 ^ 16 → IsProperDevice d →
    All AreGraphic (device_line d)
graphic-device d id limits =
    All-from_recursion AreGraphic (device_line d) (
      small d.id id,
      (
        small d.row.region limits.region,
        (
          small d.row.zone limits.zone,
          (
            graphic-address d.row.address limits.address,
            (
              small d.row.port limits.port.1,
              (
                graphic-weight d.row.weight limits.weight,
                (
                  graphic-state d.removed,
                  (graphic-device_name d.row.name limits.name, tt),
                ),
              ),
            ),
          ),
        ),
      ),
    )

device_lacks : (d : Device) → d.id < 2 ^ 16 → IsProperDevice d → All (Lacks 32) (device_line d)
device_lacks d id limits = All-weaker AreGraphic (Lacks 32) (λ w g. lacks_of_graphic 32 w (lit≤ tt)
    g) (device_line d) (graphic-device d id limits)

-- the words of a device's line
pub split-device : (d : Device) → d.id < 2 ^ 16 → IsProperDevice d →
    slice_split (λ b. b == 32) (join_with_byte 32 (device_line d)) ≡ device_line d
split-device d id limits = parts-joined 32 (decimal d.id) _ (device_lacks d id limits)

pub line_of_words : (line : List ℕ) (ws : List (List ℕ)) (d : Device) →
    ws ≡ slice_split (λ b. b == 32) line → IsDevice ws d → IsDeviceLine line d
line_of_words line ws d e h = record {
  is = sym (join_with_byte-slice_split 32 line) ∙ ap (join_with_byte 32) (sym e ∙ words_of_device ws
      d h);
  id = omega (arith, h.id.below);
  limits = limits_of_device ws d h;
}

pub words_of_line : (line : List ℕ) (ws : List (List ℕ)) (d : Device) →
    ws ≡ slice_split (λ b. b == 32) line → IsDeviceLine line d → IsDevice ws d
words_of_line line ws d e h = device_of_words ws d (e ∙ ap (slice_split (λ b. b == 32)) h.is ∙
    split-device d h.id h.limits) h.id h.limits

-- ---- a line is of one device

one_state : (a b : Bool) → state_word a ≡ state_word b → a ≡ b
one_state true true e = refl
one_state false false e = refl
one_state true false e = absurd (true≢false (ap (λ (l : List ℕ). get_or l 0 0 == 114) e))
one_state false true e = absurd (true≢false (sym (ap (λ (l : List ℕ). get_or l 0 0 == 114) e)))

abbrev device : ℕ → Row → Bool → Device
device i r m = record { id = i; row = r; removed = m }

equal_devices : (d e : Device) → d.id ≡ e.id → d.row ≡ e.row → d.removed ≡ e.removed → d ≡ e
equal_devices d e a b c = ap (λ (x : ℕ). device x d.row d.removed) a ∙ ap (λ (x : Row). device e.id
    x d.removed) b ∙ ap (λ (x : Bool). device e.id e.row x) c

same_short : (w : List ℕ) (l a b : ℕ) → SpellsNumber w l greatest_short a →
    SpellsNumber w l greatest_short b → a ≡ b
same_short w l a b h i = let all : greatest_short < 2 ^ 32 = omega arith in one_number w l
    greatest_short l greatest_short a b
    all all h i

one_of_words : (ws : List (List ℕ)) (d e : Device) → IsDevice ws d → IsDevice ws e → d ≡ e
one_of_words ws d e h i =
    let region = same_short _ _ _ _ h.region i.region in
    let zone = same_short _ _ _ _ h.zone i.zone in
    let port = same_short _ _ _ _ h.port i.port in
    let name = sym h.name.is ∙ i.name.is in
    let address = one_address _ _ h.address.valid i.address.valid (sym h.address.is ∙ i.address.is)
    in
    let weight = one_weight _ _ h.weight.valid i.weight.valid (sym h.weight.is ∙ i.weight.is) in
    let row = same_row d.row e.row (region, (zone, (address, (port, (name, weight))))) in
    equal_devices d e (same_short _ _ _ _ h.id i.id) row (one_state _ _ (sym h.state ∙ i.state))

pub one_device : (line : List ℕ) (d e : Device) → IsDeviceLine line d → IsDeviceLine line e → d ≡ e
one_device line d e h i = one_of_words _ d e (words_of_line line _ d refl h) (words_of_line line _ e
    refl i)

-- ---- the lines of devices

abbrev joined : List (List ℕ) → List ℕ
joined words = join_with_byte 32 words

pub more_devices : (texts : List (List ℕ)) (ds : List Device) (text : List ℕ) (d : Device) →
    AreDeviceLines texts ds → IsDeviceLine text d → AreDeviceLines (texts ++ text ∷ []) (ds ++ d ∷
    [])
more_devices texts ds text d are is = record {
  are = rw (
    map_push device_line ds d,
    map_push joined (map device_line ds) (device_line d),
    are.are,
    is.is,
  ) refl;
  ids = All-push (λ (x : Device). x.id < 2 ^ 16) ds d are.ids is.id;
  limits = All-push IsProperDevice ds d are.limits is.limits;
}

no_row : Row
no_row = record { region = 0; zone = 0; address = 0; port = 0; name = []; weight = 0 }

-- each of the lines is that of a device
pub device_within : (texts : List (List ℕ)) (ds : List Device) (i : ℕ) → i < length texts →
    AreDeviceLines texts ds → (d : Device) × IsDeviceLine (text_at texts i) d
device_within texts ds i lt are =
    let none : Device = record { id = 0; row = no_row; removed = false } in
    let d : Device = get_or ds i none in
    let long : length texts ≡ length ds = ap (λ (x : List (List ℕ)). length x) are.are ∙ simp
    length-map in
    let below : i < length ds = omega arith in
    let under : i < length (map device_line ds) = rw length-map below in
    let at : text_at texts i ≡ joined (device_line d) =
    ap (λ (x : List (List ℕ)). text_at x i) are.are ∙ get_or-map joined (map device_line ds) i
    (device_line d) [] under ∙ ap joined (get_or-map device_line ds i none (device_line d)
    below) in (
      d,
      record {
        is = at;
        id = All-get_or (λ (x : Device). x.id < 2 ^ 16) ds i none below are.ids;
        limits = All-get_or IsProperDevice ds i none below are.limits;
      },
    )

-- lines are of one list of devices
pub same_devices : (texts : List (List ℕ)) (ds es : List Device) → AreDeviceLines texts ds →
    AreDeviceLines texts es → ds ≡ es
same_devices texts ds es a b = go ds es (sym a.are ∙ b.are) a.ids b.ids a.limits b.limits
  where
    go : (ds es : List Device) → map joined (map device_line ds) ≡ map joined (map device_line es) →
        All (λ device. device.id < 2 ^ 16) ds → All (λ device. device.id < 2 ^ 16) es →
        All IsProperDevice ds → All IsProperDevice es → ds ≡ es
    go [] [] e i j l m = refl
    go [] (x ∷ xs) e i j l m = cc
    go (x ∷ xs) [] e i j l m = cc
    go (x ∷ xs) (y ∷ ys) e i j l m =
        let ids : Device → Type 0 = λ device. device.id < 2 ^ 16 in
        let head : joined (device_line x) ≡ joined (device_line y) =
        ap (λ (t : List (List ℕ)). text_at t 0) e in
        let tail : map joined (map device_line xs) ≡ map joined (map device_line ys) =
        ap (λ (t : List (List ℕ)). drop 1 t) e in
        let first = one_device (joined (device_line x)) x y (record {
          is = refl;
          id =
              All-head ids x xs i;
          limits = All-head IsProperDevice x xs l;
        }) (record {
          is = head;
          id = All-head ids y ys j;
          limits = All-head IsProperDevice y ys m;
        }) in
        let rest = go xs ys tail (All-tail ids x xs i) (All-tail ids y ys j)
        (All-tail IsProperDevice x xs l) (All-tail IsProperDevice y ys m) in
        ap₂ (λ (a : Device) (more : List Device). a ∷ more) first rest

pub devices_pushed : (lines : List (Bor (List ℕ))) (i : ℕ) (line : Bor (List ℕ)) (ds : List Device)
    (d : Device) → i < length lines → AreDeviceLines (map (λ l. l.now) (take i lines)) ds →
    IsDeviceLine (get_or lines i line).now d
    → AreDeviceLines (map (λ l. l.now) (take (i + 1) lines)) (ds ++ d ∷ [])
devices_pushed lines i line ds d lt are is = rw (map_more (λ (l : Bor (List ℕ)). l.now) lines i line
    lt) (more_devices (map (λ l. l.now) (take i lines)) ds (get_or lines i line).now d are is)

pub device_inside : (lines : List (Bor (List ℕ))) (i : ℕ) (line : Bor (List ℕ)) (ds : List Device) →
    i < length lines → AreDeviceLines (map (λ l. l.now) lines) ds → (d : Device) ×
    IsDeviceLine (get_or lines i line).now d
device_inside lines i line ds lt are =
    let long : i < length (map (λ (l : Bor (List ℕ)). l.now) lines) = rw length-map lt in
    rw (get_or-map (λ (l : Bor (List ℕ)). l.now) lines i line [] lt) at
    (device_within (map (λ l. l.now) lines) ds i long are)
