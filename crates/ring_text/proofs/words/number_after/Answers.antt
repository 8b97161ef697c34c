use Rattle.ring_words.specs.Spelling.{SpellsNumber}
use Rattle.ring_text.specs.Inner.Reading.{IsNumberAfter}
use Rattle.ring_words.proofs.Spelled.{reads_same}
use Rattle.ring_text.proofs.Keys.{number_after_of, number_of_after}
use Rattle.ring_text.proofs.words.number_after.Goals as goal

pub returns-clause-read : goal.returns-clause-read
returns-clause-read c =
    let key = c.args.key.now in
    let line = c.args.line.now in
    let rest = c.in_ok-rest.rest.now in
    let cut = c.in_ok-rest.ensures.read in
    let most = c.args.most in
    reads_same (SpellsNumber rest 0 most) (IsNumberAfter key line 0 most) c.read_number.result
    (λ n. number_after_of key line rest 0 most n cut)
    (λ n. number_of_after key line rest 0 most n cut)
    c.read_number.ensures.read
