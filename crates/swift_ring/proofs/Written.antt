-- Texts that are written one after another.
use Rattle.std.proofs.Common.{◌≡◌, ◌∙◌, ℕ, zero, suc, ◌+◌, Bool, true, false, List, [], ◌∷◌, ◌++◌}
use Rattle.std.proofs.Common.{append_assoc, append-nil, ap, arith, map, refl, rules, sym}
use Rattle.std.proofs.lemmas.List.{flat_map_more, map-id}
use Rattle.std.proofs.lemmas.List.Concat.{flat_map-append}
use Rattle.std.proofs.lemmas.List.FromFn.{map-range_with_len_more}
use Rattle.std.specs.List.{flat_map, range_with_len}
use Rattle.std.specs.Prelude.{codes, ◌==◌, if◌then◌else◌}
use Rattle.swift_ring.specs.Json.{array, listed, member, object, quoted}

-- the members of a device, in five parts
pub members_written : (name id address port region weight zone : List ℕ) (t0 t1 t2 t3 t4 t5 : List
    ℕ) → t1 ≡ t0 ++ (codes "\"device\": \"" ++ (name ++ (codes "\", \"id\": " ++ (id ++
    (codes ", \"ip\": \"" ++ (address ++ codes "\", \"meta\": \"\"")))))) →
    t2 ≡ t1 ++ (codes ", \"port\": " ++ (port ++ (codes ", \"region\": " ++ (region ++
    (codes ", \"replication_ip\": \"" ++ (address ++ (codes "\", \"replication_port\": " ++
    port))))))) → t3 ≡ t2 ++ codes ", \"weight\": " → t4 ≡ t3 ++ weight →
    t5 ≡ t4 ++ (codes ", \"zone\": " ++ zone) →
    t5 ≡ t0 ++ listed (member (codes "device") (quoted name)
    ∷ member (codes "id") id
    ∷ member (codes "ip") (quoted address)
    ∷ member (codes "meta") (quoted [])
    ∷ member (codes "port") port
    ∷ member (codes "region") region
    ∷ member (codes "replication_ip") (quoted address)
    ∷ member (codes "replication_port") port
    ∷ member (codes "weight") weight
    ∷ member (codes "zone") zone
    ∷ [])
members_written name id address port region weight zone t0 t1 t2 t3 t4 t5 h1 h2 h3 h4 h5 =
    let quote = codes "\"" in
    let last : List ℕ = codes ", \"replication_port\": " ++ (port ++ (codes ", \"weight\": " ++
    (weight ++ (codes ", \"zone\": " ++ zone)))) in
    let middle : List ℕ = codes ", \"meta\": \"\", \"port\": " ++ (port ++
    (codes ", \"region\": " ++ (region ++ (codes ", \"replication_ip\": \"" ++ (address ++
    (quote ++ last)))))) in
    let first : List ℕ = codes ", \"id\": " ++ (id ++ (codes ", \"ip\": \"" ++ (address ++
    (quote ++ middle)))) in
    rw (h5, h4, h3, h2, h1) (simp (append_assoc, append-nil) (rw (
      append_assoc address quote last,
      append_assoc address quote middle,
      append_assoc name quote first,
    )))

-- one more of the numbers from 0 on
range_more : (n : ℕ) → range_with_len 0 (n + 1) ≡ range_with_len 0 n ++ n ∷ []
range_more n = sym (map-id (range_with_len 0 (n + 1)))
    ∙ map-range_with_len_more (λ x. x) 0 n n (omega arith)
    ∙ ap (λ (x : List ℕ). x ++ n ∷ []) (map-id (range_with_len 0 n))

-- one more piece of bytes
pub pieces_more : (f : ℕ → List ℕ) (bytes : List ℕ) (n : ℕ) → (bytes ++ flat_map f
    (range_with_len 0 n)) ++ f n ≡ bytes ++ flat_map f (range_with_len 0 (n + 1))
pieces_more f bytes n = flat_map_more f bytes (range_with_len 0 n) n
    ∙ ap (λ (x : List ℕ). bytes ++ flat_map f x) (sym (range_more n))

abbrev is_empty : List (List ℕ) → Bool
is_empty [] = true
is_empty (part ∷ parts) = false

-- one more part, behind a comma where it isn't the first
listed_more : (bytes : List ℕ) (parts : List (List ℕ)) (part : List ℕ) → (bytes ++ listed parts) ++
    (if is_empty parts then part else codes ", " ++ part) ≡ bytes ++ listed (parts ++ part ∷ [])
listed_more bytes [] part = ap (λ (x : List ℕ). x ++ part) (append-nil bytes)
    ∙ ap (λ (x : List ℕ). bytes ++ x) (sym (append-nil part))
listed_more bytes (first ∷ parts) part =
    let behind : List ℕ → List ℕ = λ (other : List ℕ). codes ", " ++ other in
    let so_far : List ℕ = flat_map behind parts in
    append_assoc bytes (first ++ so_far) (behind part)
    ∙ ap (λ (x : List ℕ). bytes ++ x) (append_assoc first so_far (behind part)
    ∙ ap (λ (x : List ℕ). first ++ x) (ap (λ (x : List ℕ). so_far ++ x)
    (sym (append-nil (behind part))) ∙ sym (flat_map-append behind parts (part ∷ []))))

-- one more of the entries of numbers
pub entries_more : (f : ℕ → List ℕ) (bytes : List ℕ) (n : ℕ) → (bytes ++ listed (map f
    (range_with_len 0 n))) ++ (if n == 0 then f n else codes ", " ++ f n)
    ≡ bytes ++ listed (map f (range_with_len 0 (n + 1)))
entries_more f bytes n =
    ap (λ (b : Bool). (bytes ++ listed (map f (range_with_len 0 n))) ++
    (if b then f n else codes ", " ++ f n)) (first_of n)
    ∙ listed_more bytes (map f (range_with_len 0 n)) (f n)
    ∙ ap (λ (x : List (List ℕ)). bytes ++ listed x) (sym (map-range_with_len_more f 0 n n (omega
    arith)))
  where
    first_of : (n : ℕ) → (n == 0) ≡ is_empty (map f (range_with_len 0 n))
    first_of zero = refl
    first_of (suc n) = search rules

-- the JSON of a ring, in three parts
pub json_written : (parts : List (List ℕ)) (shift replicas version : List ℕ) (t1 t2 t3 : List ℕ) →
    t1 ≡ codes "{\"byteorder\": \"little\", \"devs\": [" → t2 ≡ t1 ++ listed parts →
    t3 ≡ t2 ++ (codes "], \"part_shift\": " ++ (shift ++ (codes ", \"replica_count\": " ++
    (replicas ++ (codes ", \"version\": " ++ (version ++ codes "}")))))) →
    t3 ≡ object (member (codes "byteorder") (quoted (codes "little"))
    ∷ member (codes "devs") (array parts)
    ∷ member (codes "part_shift") shift
    ∷ member (codes "replica_count") replicas
    ∷ member (codes "version") version
    ∷ [])
json_written parts shift replicas version t1 t2 t3 h1 h2 h3 =
    rw (h3, h2, h1) (sym (regroup (codes "{") (member (codes "byteorder") (quoted (codes "little")))
    (codes ", \"devs\": [") (listed parts) (codes "]")
    (codes ", " ++ member (codes "part_shift") shift)
    (codes ", " ++ member (codes "replica_count") replicas)
    (codes ", " ++ member (codes "version") version) (codes "}")))
  where
    regroup : (o m d e k a b c q : List ℕ) → (o ++ (m ++ ((d ++ (e ++ k)) ++ (a ++ (b ++ (c ++
        [])))))) ++ q ≡ ((o ++ (m ++ d)) ++ e) ++ (k ++ (a ++ (b ++ (c ++ q))))
    regroup o m d e k a b c q = simp (append_assoc, append-nil)
