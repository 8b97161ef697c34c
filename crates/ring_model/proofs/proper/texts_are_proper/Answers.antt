use Rattle.std.proofs.Common.{All, ℕ, ◌<◌, ◌^◌, subst}
use Rattle.std.specs.Rc.{rc_str_bytes}
use Rattle.std.specs.declared.rc.RcStr.{RcStr}
use Rattle.std.specs.declared.alloc.Global.{Global}
use Rattle.std.proofs.lemmas.List.{take_all}
use Rattle.std.proofs.lemmas.List.Elements.{All-more, All-map}
use Rattle.ring_model.specs.Valid.{IsVersioned}
use Rattle.ring_model.proofs.proper.texts_are_proper.Goals as goal

pub loop-text-preserved : goal.loop-text-preserved
loop-text-preserved c =
    All-more (λ (t : ℕ × RcStr Global). t.0 < 2 ^ 32) c.args.texts.now c.loop-text.text-index
    c.text-item.result c.loop-text-test.true c.loop-text.invariant
    (subst (λ (t : ℕ × RcStr Global). t.0 < 2 ^ 32) c.text-item.is c.text_is_proper.ensures)

pub returns : goal.returns
returns c =
    All-map IsVersioned (λ (t : ℕ × RcStr Global). (t.0, rc_str_bytes t.1)) c.args.texts.now
    (subst (λ ts. All (λ (t : ℕ × RcStr Global). t.0 < 2 ^ 32) ts) (take_all c.loop-text.text-index
    c.args.texts.now c.loop-text-test.false) c.loop-text.invariant)
