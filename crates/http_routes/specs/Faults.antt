-- How a target names the faults of its parts.
use Rattle.path_lookup.specs.declared.fault.PathFault.{PathFault}
use Rattle.path_lookup.specs.declared.fault.PathFault.TheVariants as path
use Rattle.ring_words.specs.declared.spelling.SpellingFault.{SpellingFault}
use Rattle.ring_words.specs.declared.spelling.SpellingFault.TheVariants as spelling
use Rattle.http_routes.specs.declared.target.TargetFault.{TargetFault}
use Rattle.http_routes.specs.declared.target.TargetFault.TheVariants.{BadPath, NoMemory, Unreadable}

-- how a target names the fault of a name or a number
abbrev pub spelling_fault : SpellingFault → TargetFault
spelling_fault spelling.Bad = Unreadable
spelling_fault spelling.NoMemory = NoMemory

-- how a target names the fault of a path
abbrev pub path_fault : PathFault → TargetFault
path_fault path.BadPath = BadPath
path_fault path.NoMemory = NoMemory
