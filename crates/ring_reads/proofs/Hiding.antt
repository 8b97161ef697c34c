-- Want of memory hides whatever is shown, and a version that isn't read what moved from or to it.
use Rattle.std.proofs.Common.{◌⊎◌, ℕ, List, inr, refl}
use Rattle.ring_model.specs.Ring.{RingRecord}
use Rattle.ring_reads.specs.Holding.{Holding}
use Rattle.ring_reads.specs.Reads.{Hides, IsHidden, IsVersionUnread, Shows}
use Rattle.ring_reads.specs.declared.reads.Hidden.{Hidden}
use Rattle.ring_reads.specs.declared.reads.Hidden.TheVariants.{BadText, NoMemory, NoRing, NoVersion}
use Rattle.ring_reads.specs.declared.reads.Hidden.TheVariants.{NotAssigned, TooFewDevices}
use Rattle.ring_reads.specs.declared.reads.Question.{Question}
use Rattle.ring_reads.specs.declared.reads.Question.TheVariants as question
use Rattle.ring_reads.specs.declared.reads.Read.TheVariants as read

pub no_memory_hides : (prefix suffix : List ℕ) (held : Holding) (asked : Question)
    (bytes : List ℕ) → Shows prefix suffix held asked bytes → Hides held asked NoMemory
no_memory_hides prefix suffix held question.Rings bytes shown = refl
no_memory_hides prefix suffix held question.Status bytes shown = refl
no_memory_hides prefix suffix held question.Metrics bytes shown = refl
no_memory_hides prefix suffix held (question.Ring name what) bytes shown =
    inr (shown.0, shown.1, tt)

pub moves_hidden : (ring : RingRecord) (from to : ℕ) (why : Hidden) →
    IsVersionUnread ring from why ⊎ IsVersionUnread ring to why → IsHidden ring (read.Moves from to) why
moves_hidden ring from to NoMemory unread = tt
moves_hidden ring from to NoRing unread = unread
moves_hidden ring from to NotAssigned unread = unread
moves_hidden ring from to NoVersion unread = unread
moves_hidden ring from to BadText unread = unread
moves_hidden ring from to TooFewDevices unread = unread

pub each_hidden : (ring : RingRecord) (from to : ℕ) (why : Hidden) →
    IsVersionUnread ring from why ⊎ IsVersionUnread ring to why → IsHidden ring (read.EachMove from to) why
each_hidden ring from to NoMemory unread = tt
each_hidden ring from to NoRing unread = unread
each_hidden ring from to NotAssigned unread = unread
each_hidden ring from to NoVersion unread = unread
each_hidden ring from to BadText unread = unread
each_hidden ring from to TooFewDevices unread = unread
