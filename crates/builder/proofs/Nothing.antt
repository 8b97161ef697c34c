-- No rings are valid rings, and the hour before all others has 32 bits.
use Rattle.std.proofs.Common.{◌<◌, [], arith}
use Rattle.std.proofs.lemmas.List.Elements.{All-nil}
use Rattle.std.specs.Prelude.{IsTrue}
use Rattle.ring_words.specs.Limits.{long_count}
use Rattle.ring_words.specs.Texts.{is_label}
use Rattle.ring_model.specs.Valid.{IsValid}
use Rattle.builder.specs.Life.{nothing_held}
use Rattle.builder.specs.Safety.{AreValid}

pub valid_nothing : AreValid []
valid_nothing = record {
  count = omega arith;
  by_name = λ i j d less lt. absurd (omega arith);
  named = All-nil (λ named. IsTrue (is_label named.0));
  each = All-nil (λ named. IsValid named.1);
}

pub short_nothing : nothing_held.hour < long_count
short_nothing = omega arith
