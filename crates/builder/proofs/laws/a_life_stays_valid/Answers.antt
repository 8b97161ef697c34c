use Rattle.builder.proofs.Lives.{valid_life}
use Rattle.builder.proofs.Nothing.{short_nothing, valid_nothing}
use Rattle.builder.specs.Life.{nothing_held}
use Rattle.builder.proofs.laws.a_life_stays_valid.Goals as goal

pub returns-clause-valid : goal.returns-clause-valid
returns-clause-valid c = valid_life

pub returns-clause-from_nothing : goal.returns-clause-from_nothing
returns-clause-from_nothing c = λ limits limit new runs lives proper. valid_life limits limit
    nothing_held new runs lives short_nothing proper valid_nothing
