use Rattle.std.proofs.Common.{◌≡◌, take, map, codes, false}
use Rattle.std.specs.List.{list_any}
use Rattle.http_messages.specs.Audiences.{is_host_of}
use Rattle.http_messages.proofs.audience.is_host_among.Given as goal

abbrev pub invariant-loop-name : goal.invariant-loop-name
invariant-loop-name l = list_any (is_host_of l.host) (map (λ name. name.now)
    (take l.name-index l.names)) ≡ false
