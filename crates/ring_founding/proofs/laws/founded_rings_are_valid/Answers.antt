use Rattle.ring_founding.proofs.Founded.{by_name_founded, few_founded, named_each, valid_each}
use Rattle.ring_founding.proofs.laws.founded_rings_are_valid.Goals as goal

pub returns-clause-count : goal.returns-clause-count
returns-clause-count c = λ terms rings founded snapshots. few_founded terms rings snapshots founded

pub returns-clause-by_name : goal.returns-clause-by_name
returns-clause-by_name c = λ terms rings founded snapshots. by_name_founded terms rings snapshots
    founded

pub returns-clause-named : goal.returns-clause-named
returns-clause-named c = λ terms rings founded snapshots. named_each terms rings snapshots founded

pub returns-clause-each : goal.returns-clause-each
returns-clause-each c = λ terms rings founded snapshots valid hour hours is. valid_each terms rings
    snapshots founded hour hours valid is
