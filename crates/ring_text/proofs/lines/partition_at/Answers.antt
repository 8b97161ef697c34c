use Rattle.std.proofs.Common.{map, ap, Bor, List, ℕ, ◌≡◌, ◌<◌, length, arith}
use Rattle.std.proofs.lemmas.List.{length-map}
use Rattle.ring_text.specs.Inner.Reading.{AreNumbers, IsPartitionLine}
use Rattle.ring_words.proofs.Spelled.{list_same}
use Rattle.ring_text.proofs.Partitions.{words_of_partition, numbers_of_partition}
use Rattle.ring_text.proofs.Partitions.{partition_of_numbers}
use Rattle.ring_text.proofs.lines.partition_at.Goals as goal

pub returns-then-len-from : goal.returns-then-len-from
returns-then-len-from c = λ ns is.
    let some : 0 < c.args.replicas = omega (arith, c.get.ensures.value, c.get.ensures.within.0) in
    let same = simp length-map at (ap (λ (x : List (List ℕ)). length x)
    (words_of_partition c.args.replicas c.args.line.now _ ns some c.in_ok-words.ensures is)) in
    omega (
      arith,
      same,
      is.count,
      c.in_ok-words.words.ok.0,
      c.len.ensures,
      c.get.ensures.value,
      c.from.ensures,
    )

pub returns : goal.returns
returns c =
    let some : 0 < c.args.replicas = omega (arith, c.get.ensures.value, c.get.ensures.within.0) in
    let count : length (map (λ (w : Bor (List ℕ)). w.now) c.in_ok-words.words.items) ≡
    c.args.replicas = simp length-map (omega (
      arith,
      c.in_ok-words.words.ok.0,
      c.len.ensures,
      c.get.ensures.value,
      c.from.ensures,
    )) in
    list_same (AreNumbers _) (IsPartitionLine c.args.replicas c.args.line.now) c.numbers_of.result
    (λ ns. partition_of_numbers c.args.replicas c.args.line.now _ ns c.in_ok-words.ensures count)
    (λ ns. numbers_of_partition c.args.replicas c.args.line.now _ ns some c.in_ok-words.ensures)
    (rw c.deref.ensures.value at c.numbers_of.ensures)
