use Rattle.std.proofs.Common.{map, subst, Bor, List, ℕ, arith}
use Rattle.std.proofs.lemmas.List.{take_all}
use Rattle.ring_words.specs.Limits.{greatest_short}
use Rattle.std.proofs.lemmas.Result.{err_from_is_err_and}
use Rattle.ring_words.specs.Spelling.{SpellsNumber}
use Rattle.ring_text.specs.Inner.Reading.{AreNumbers}
use Rattle.ring_words.proofs.Spelled.{list_err}
use Rattle.ring_text.proofs.Partitions.{number_inside, number_pushed}
use Rattle.ring_text.proofs.lines.numbers_of.Goals as goal

pub returns-in_err-number : goal.returns-in_err-number
returns-in_err-number c =
    let p = err_from_is_err_and c.from_residual-in_err-number.result
    c.from_residual-in_err-number.ensures.1 in
    rw (p.1, p.2) (list_err (SpellsNumber _ 0 greatest_short) (AreNumbers (map (λ (w : Bor (List
    ℕ)). w.now)
    c.args.words.now)) c.in_err-number.field-0.0 c.in_err-number.ensures.read
    (λ ns are. number_inside c.args.words.now c.loop-word.word-index _ ns (omega arith) are))

pub loop-word-preserved : goal.loop-word-preserved
loop-word-preserved c = rw c.in_ok-push.ensures.items (number_pushed c.args.words.now
    c.loop-word.word-index _ c.loop-word.numbers.items c.in_ok-number.number (omega arith)
    c.loop-word.invariant c.in_ok-number.ensures.read)

pub returns : goal.returns
returns c = subst (λ (all : List (Bor (List ℕ))). AreNumbers (map (λ (x : Bor (List ℕ)). x.now) all)
    c.loop-word.numbers.items) (take_all c.loop-word.word-index c.args.words.now c.loop-word-test.false)
    c.loop-word.invariant
