use Rattle.std.proofs.Common.{◌≡◌, ◌++◌, map}
use Rattle.std.specs.List.{range_with_len}
use Rattle.std.specs.Prelude.{string_bytes}
use Rattle.swift_ring.specs.Json.{listed}
use Rattle.swift_ring.specs.SwiftFile.{number_entry}
use Rattle.swift_ring.proofs.json.push_entries.Given as goal

abbrev pub invariant-loop-id : goal.invariant-loop-id
invariant-loop-id l = string_bytes l.text ≡ string_bytes l.initial.text ++
    listed (map (number_entry l.devices) (range_with_len 0 l.id))
