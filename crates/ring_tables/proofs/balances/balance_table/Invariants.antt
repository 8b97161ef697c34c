use Rattle.std.proofs.Common.{◌≡◌, string_bytes, take, map}
use Rattle.std.specs.List.{zip}
use Rattle.ring_tables.specs.Layout.{table}
use Rattle.ring_tables.specs.Tables.{balance_columns, balance_titles, balance_texts}
use Rattle.ring_tables.proofs.balances.balance_table.Given as goal

-- the rows of the devices so far
abbrev pub invariant-loop-place : goal.invariant-loop-place
invariant-loop-place l = string_bytes l.table ≡ table balance_columns balance_titles
    (map (λ e. balance_texts l.ring e.0 e.1) (take l.place (zip l.device-items l.wants.items)))
