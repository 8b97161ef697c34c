-- Contents differ or are the same in one way only.
use Rattle.std.proofs.Common.{refl}
use Rattle.std.specs.Prelude.{ℕ, List}
use Rattle.std.specs.Coded.{Coded, Coded-set, code_by, coded×, coded_ℕ, coded_list}
use Rattle.ring_words.specs.declared.request.Key.{Key}
use Rattle.ring_words.specs.declared.command.Command.{Command}
use Rattle.ring_words.specs.declared.command.Reply.{Reply}
use Rattle.ring_words.specs.contracts.request.Key as key
use Rattle.ring_words.specs.contracts.command.Command as command
use Rattle.ring_words.specs.contracts.command.Reply as reply
use Rattle.ring_model.specs.contracts.rings.Rings as rings
use Rattle.request_book.specs.declared.entry.Entry.{Entry}
use Rattle.request_book.specs.Content.{Content}
use Rattle.builder.specs.Step.{State}

-- The code of an entry.
abbrev pub entry_code : Coded (Entry Command Reply)
entry_code =
    code_by (Key × (ℕ × (Command × Reply)))
    (coded× key.the_row.coded (coded× coded_ℕ (coded× command.the_row.coded reply.the_row.coded)))
    (λ e. (e.key, (e.hour, (e.command, e.reply))))
    (λ p. record { key = p.0; hour = p.1.0; command = p.1.1.0; reply = p.1.1.1 })
    (λ _. refl)

-- The code of a content.
abbrev pub content_code : Coded (Content State Command Reply)
content_code =
    code_by (State × (List (Entry Command Reply) × ℕ))
    (coded× rings.the_row.coded (coded× (coded_list entry_code) coded_ℕ))
    (λ c. (c.state, (c.book, c.hour)))
    (λ p. record { state = p.0; book = p.1.0; hour = p.1.1 })
    (λ _. refl)

-- Two proofs that contents are the same are one.
pub content_set : IsSet (Content State Command Reply)
content_set = Coded-set content_code
