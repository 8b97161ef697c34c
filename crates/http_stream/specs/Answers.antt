-- The answers to the requests of a stream.
use Rattle.std.specs.Prelude.{◌≡◌, ◌⊎◌, ℕ, List, flat_map}
use Rattle.http_messages.specs.Answers.{no_memory_answer, refusal_answer}
use Rattle.http_stream.specs.Streams.{Item, Calls, Refuses}
use Rattle.http_stream.specs.declared.service.Service.{Ghosts}

-- A request may be given this text: the service's answer, or what stands for a lost answer. A
-- request that is refused gets its own text, and leaves the clock and the state as they were.
abbrev pub ItemAnswered : {H C S : Type 0} → Ghosts H C S → H → C × S → Item → List ℕ → C × S →
    Type 0
ItemAnswered ghosts service old (Calls ask) text new =
    ghosts.answers service old ask text new
    ⊎ (ghosts.loses service old ask new × (text ≡ no_memory_answer ask.is_last))
ItemAnswered ghosts service old (Refuses why) text new = (text ≡ refusal_answer why) × (new ≡ old)

-- answers one after another, with nothing between them
abbrev pub joined : List (List ℕ) → List ℕ
joined texts = flat_map (λ text. text) texts
