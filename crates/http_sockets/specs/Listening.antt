-- What a server tells of its port.
use Rattle.std.specs.Prelude.{◌≡◌, ℕ}
use Rattle.byte_streams.specs.Counted.{one_more}
use Rattle.http_sockets.specs.declared.server.Server.{Server}

-- how many connections it has accepted
abbrev pub accepted_count : {R S L : Type 0} → Server R S L → ℕ
accepted_count server = server.accepted

-- how often no connection could be accepted any more
abbrev pub net_faults : {R S L : Type 0} → Server R S L → ℕ
net_faults server = server.faults

-- No connection was accepted yet, and none failed to come.
abbrev pub HasAcceptedNone : {R S L : Type 0} → Server R S L → Type 0
HasAcceptedNone server = (accepted_count server ≡ 0) × (net_faults server ≡ 0)

-- One more connection was accepted.
abbrev pub AcceptsOne : {R S L : Type 0} → Server R S L → Server R S L → Type 0
AcceptsOne old new = (accepted_count new ≡ one_more (accepted_count old)) ×
    (net_faults new ≡ net_faults old)

-- No connection could be accepted any more.
abbrev pub AcceptsNone : {R S L : Type 0} → Server R S L → Server R S L → Type 0
AcceptsNone old new = (accepted_count new ≡ accepted_count old) ×
    (net_faults new ≡ one_more (net_faults old))
