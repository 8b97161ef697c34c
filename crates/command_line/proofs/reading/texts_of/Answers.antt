use Rattle.std.proofs.Common.{List, [], Option, ap, ◌∙◌, map, Bor}
use Rattle.std.specs.Prelude.{unwrap_or}
use Rattle.std.proofs.lemmas.Result.{IfOk-weaker}
use Rattle.clap.specs.Matches.{found_of}
use Rattle.clap.specs.Walk.{Text}
use Rattle.clap.proofs.WalkLemmas.{raw_values-rows}
use Rattle.command_line.proofs.reading.texts_of.Goals as goal

pub returns-in-Some : goal.returns-in-Some
returns-in-Some c =
    let all = c.in-Some.ensures ∙ raw_values-rows (found_of c.args.matches.now) c.args.name.now in
    let texts = ap (λ (found : Option (List Text)). unwrap_or found []) all in
    IfOk-weaker c.from_slice.result _ _
    (λ made items. ap (map (λ (t : Bor Text). t.now)) items ∙ texts) c.from_slice.ensures.items

pub returns-in-None : goal.returns-in-None
returns-in-None c =
    let none = c.in-None.ensures ∙ raw_values-rows (found_of c.args.matches.now) c.args.name.now in
    ap (map (λ (t : Bor Text). t.now)) c.new.ensures.items
    ∙ ap (λ (found : Option (List Text)). unwrap_or found []) none
