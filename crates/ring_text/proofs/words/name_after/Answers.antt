use Rattle.ring_words.specs.Texts.{is_label}
use Rattle.ring_words.specs.Spelling.{SpellsName}
use Rattle.ring_text.specs.Inner.Reading.{IsNameAfter}
use Rattle.ring_words.proofs.Spelled.{reads_same}
use Rattle.ring_text.proofs.Keys.{name_after_of, name_of_after}
use Rattle.ring_text.proofs.words.name_after.Goals as goal

pub returns-clause-read : goal.returns-clause-read
returns-clause-read c =
    let key = c.args.key.now in
    let line = c.args.line.now in
    let rest = c.in_ok-rest.rest.now in
    let cut = c.in_ok-rest.ensures.read in
    reads_same (SpellsName is_label rest) (IsNameAfter key line) c.read_name.result
    (λ name. name_after_of key line rest name cut)
    (λ name. name_of_after key line rest name cut)
    c.read_name.ensures.read

pub returns-clause-bad : goal.returns-clause-bad
returns-clause-bad c =
    λ none. c.read_name.ensures.bad.1
    (λ valid. none c.in_ok-rest.rest.now (record { is = c.in_ok-rest.ensures.read; valid = valid }))
