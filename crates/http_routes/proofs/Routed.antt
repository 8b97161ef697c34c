-- The routes of the table are those of the paths.
use Rattle.std.proofs.Common.{◌≡◌, ◌≢◌, ◌⊎◌, inl, inr, ℕ, ◌+◌, List, [], ◌∷◌, ◌++◌, length, refl, sym, ap}
use Rattle.std.proofs.Common.{◌∙◌, arith, subst}
use Rattle.std.proofs.Common.{append_assoc, codes, Option, Some, None, true, drop}
use Rattle.std.proofs.lemmas.List.{append-nil, drop_at, length-append}
use Rattle.std.proofs.lemmas.Str.{IsUtf8-append}
use Rattle.std.specs.Option.{unwrap_or}
use Rattle.std.specs.Prelude.{MatchOption}
use Rattle.std.specs.Str.{IsUtf8}
use Rattle.matchit.proofs.OnLiterals.{matchit_on_literals}
use Rattle.matchit.specs.Level.{IsText}
use Rattle.matchit.specs.Params.{AllText, named, part_of, walk}
use Rattle.matchit.specs.Router.{RouteOf}
use Rattle.matchit.specs.Rows.{RowsOf}
use Rattle.matchit.specs.Seek.{first}
use Rattle.http_routes.proofs.Finding.{Follows, IsFound, IsFree, IsPiece, between-first}
use Rattle.http_routes.proofs.Finding.{bytes-first, end-first, last-first, seek-found, steps}
use Rattle.http_routes.proofs.Parts.{part-before, part-last}
use Rattle.http_routes.proofs.Texts.{is_plain, begins-with, piece-of, plain-text, plain-utf8}
use Rattle.http_routes.proofs.Texts.{segment-of, takes-piece, text-before}
use Rattle.http_routes.proofs.Texts.{text-behind, utf8-behind, utf8-cut}
use Rattle.http_routes.specs.Inner.Table.{HasRow, RowLeadsTo, all_routes, import_row, log_row}
use Rattle.http_routes.specs.Inner.Table.{metrics_row, page_row, requests_row}
use Rattle.http_routes.specs.Inner.Table.{ring_row, rings_row, status_row, swift_row, text_row}
use Rattle.http_routes.specs.Inner.Table.{whole_row, word_row}
use Rattle.http_routes.specs.Routes.{HasRoute, IsPathSegment, plain_tail, ring_path}
use Rattle.http_routes.specs.declared.routes.Endpoint.{Endpoint}
use Rattle.ring_reads.specs.declared.plain.Plain.TheVariants as plain
use Rattle.http_routes.specs.declared.routes.Endpoint.TheVariants as endpoint
use Rattle.http_routes.specs.declared.table.TableRow.{TableRow}
use Rattle.http_routes.specs.declared.table.TableRow.TheVariants.{Requests, Import, Nodes, Text}
use Rattle.http_routes.specs.declared.table.TableRow.TheVariants.{Log, Metrics, Ring, Rings, Status}
use Rattle.http_routes.specs.declared.table.TableRow.TheVariants.{Page, Swift, Word}
use Rattle.ring_reads.specs.Reads.{plain_word}
use Rattle.ring_reads.specs.declared.plain.Plain.{Plain}

abbrev pub Row : Type 0
Row = RouteOf TableRow

-- what a found route's parameters say
abbrev pub parts : List ℕ → Row → List (List ℕ × List ℕ)
parts path row = walk row.pattern row.text path row.names 0 0

abbrev pub part_named : List ℕ → List (List ℕ × List ℕ) → List ℕ
part_named name pairs = unwrap_or (named name pairs) []

-- A found route is one that the path has, with what its parameters say.
pub record IsRouted (path : List ℕ) (row : Row) : Type 0 where
  pub texts : AllText (parts path row)
  pub has : HasRow path row.value (part_named (codes "ring") (parts path row))
      (part_named (codes "version") (parts path row))
      (part_named (codes "word") (parts path row))

import_parts : (ring : List ℕ) → parts (codes "/v1/import/" ++ ring) import_row.1
    ≡ (codes "ring", ring) ∷ []
import_parts ring = part-last import_row.0 import_row.1.text (codes "/v1/import/" ++ ring) (12, 16)
    0 0
    (codes "/v1/import/") ring (plain-text (codes "/v1/import/") refl) (omega arith) (omega arith)
    refl refl

on-import : (path : List ℕ) → IsText path → IsUtf8 path → Follows import_row.0 path
    → IsRouted path import_row.1
on-import path text utf8 f =
    let front = begins-with (codes "/v1/import/") (256 ∷ []) path
    (plain-text (codes "/v1/import/") refl) f in
    let whole : IsText (codes "/v1/import/" ++ front.0) = subst IsText front.1 text in
    let piece = takes-piece [] front.0 (text-behind (codes "/v1/import/") front.0 whole) front.2 in
    let is : path ≡ codes "/v1/import/" ++ piece.0 =
    front.1 ∙ ap (λ (l : List ℕ). codes "/v1/import/" ++ l) (piece.2
    ∙ ap (λ (l : List ℕ). piece.0 ++ l) piece.4 ∙ append-nil piece.0) in
    let ringed : IsUtf8 piece.0 = utf8-behind (codes "/v1/import/") piece.0 (subst IsUtf8 is utf8)
    (plain-utf8 (codes "/v1/import/") refl) in
    subst (λ (p : List ℕ). IsRouted p import_row.1) (sym is) (made piece.0 piece.3 ringed)
  where
    made : (ring : List ℕ) → IsPiece ring → IsUtf8 ring
        → IsRouted (codes "/v1/import/" ++ ring) import_row.1
    made ring is utf8 = record {
      texts = subst AllText (sym (import_parts ring)) (plain-utf8 (codes "ring") refl, utf8, tt);
      has = subst (λ (pairs : List (List ℕ × List ℕ)). HasRow (codes "/v1/import/" ++ ring) Import
          (part_named (codes "ring") pairs) (part_named (codes "version") pairs)
          (part_named (codes "word") pairs))
          (sym (import_parts ring))
          (refl, segment-of ring is utf8, refl);
    }

on-requests : (path : List ℕ) → Follows requests_row.0 path → IsRouted path requests_row.1
on-requests path f =
    let front = begins-with (codes "/v1/requests") [] path (plain-text (codes "/v1/requests") refl)
    f in
    record {
      texts = tt;
      has = (front.1 ∙ ap (λ (l : List ℕ). codes "/v1/requests" ++ l) front.2, refl, refl);
    }

on-rings : (path : List ℕ) → Follows rings_row.0 path → IsRouted path rings_row.1
on-rings path f =
    let front = begins-with (codes "/v1/rings") [] path (plain-text (codes "/v1/rings") refl) f in
    record {
      texts = tt;
      has = (front.1 ∙ ap (λ (l : List ℕ). codes "/v1/rings" ++ l) front.2, refl, refl);
    }

on-status : (path : List ℕ) → Follows status_row.0 path → IsRouted path status_row.1
on-status path f =
    let front = begins-with (codes "/v1/status") [] path (plain-text (codes "/v1/status") refl) f in
    record {
      texts = tt;
      has = (front.1 ∙ ap (λ (l : List ℕ). codes "/v1/status" ++ l) front.2, refl, refl);
    }

on-metrics : (path : List ℕ) → Follows metrics_row.0 path → IsRouted path metrics_row.1
on-metrics path f =
    let front = begins-with (codes "/v1/metrics") [] path (plain-text (codes "/v1/metrics") refl) f
    in
    record {
      texts = tt;
      has = (front.1 ∙ ap (λ (l : List ℕ). codes "/v1/metrics" ++ l) front.2, refl, refl);
    }

on-log : (path : List ℕ) → Follows log_row.0 path → IsRouted path log_row.1
on-log path f =
    let front = begins-with (codes "/v1/log") [] path (plain-text (codes "/v1/log") refl) f in
    record {
      texts = tt;
      has = (front.1 ∙ ap (λ (l : List ℕ). codes "/v1/log" ++ l) front.2, refl, refl);
    }

on-page : (path : List ℕ) → Follows page_row.0 path → IsRouted path page_row.1
on-page path f =
    let front = begins-with (codes "/v1/page") [] path (plain-text (codes "/v1/page") refl) f in
    record {
      texts = tt;
      has = (front.1 ∙ ap (λ (l : List ℕ). codes "/v1/page" ++ l) front.2, refl, refl);
    }

-- the path of a ring
ring_front : (ring tail : List ℕ) → (codes "/v1/rings/" ++ ring) ++ tail
    ≡ codes "/v1/rings/" ++ (ring ++ tail)
ring_front ring tail = append_assoc (codes "/v1/rings/") ring tail

-- a path whose tokens behind a ring's name begin with a slash
ring-cut : (t path : List ℕ) → IsText path → IsUtf8 path
    → Follows (codes "/v1/rings/" ++ 256 ∷ 47 ∷ t) path
    → (ring : List ℕ) × (rest : List ℕ) × (path ≡ (codes "/v1/rings/" ++ ring) ++ 47 ∷ rest)
    × IsPiece ring × IsUtf8 ring
    × IsUtf8 (47 ∷ rest) × IsText rest × Follows t rest
ring-cut t path text utf8 f =
    let front = begins-with (codes "/v1/rings/") (256 ∷ 47 ∷ t) path
    (plain-text (codes "/v1/rings/") refl) f in
    let behind : IsText front.0 = text-behind (codes "/v1/rings/") front.0
    (subst IsText front.1 text) in
    let piece = takes-piece (47 ∷ t) front.0 behind front.2 in
    let tail = begins-with (47 ∷ []) t piece.1 (plain-text (47 ∷ []) refl) piece.4 in
    let is : front.0 ≡ piece.0 ++ 47 ∷ tail.0 = piece.2
    ∙ ap (λ (l : List ℕ). piece.0 ++ l) tail.1 in
    let whole : path ≡ (codes "/v1/rings/" ++ piece.0) ++ 47 ∷ tail.0 =
    front.1 ∙ ap (λ (l : List ℕ). codes "/v1/rings/" ++ l) is
    ∙ sym (ring_front piece.0 (47 ∷ tail.0)) in
    let cut : IsUtf8 piece.0 × IsUtf8 (47 ∷ tail.0) = utf8-cut piece.0 tail.0 (subst IsUtf8 is
    (utf8-behind (codes "/v1/rings/") front.0 (subst IsUtf8 front.1 utf8)
    (plain-utf8 (codes "/v1/rings/") refl))) in
    let rest : IsText (47 ∷ tail.0) = text-behind piece.0 (47 ∷ tail.0) (subst IsText is behind) in
    (piece.0, tail.0, whole, piece.3, cut.0, cut.1, rest.1, tail.2)

ring_parts : (t text ring : List ℕ) → IsFree ring → part_of text 11 15 ≡ codes "ring"
    → walk (codes "/v1/rings/" ++ 256 ∷ 47 ∷ t) text ((codes "/v1/rings/" ++ ring) ++ 47 ∷ t)
    ((11, 15) ∷ []) 0 0
    ≡ (codes "ring", ring) ∷ []
ring_parts t text ring free name =
    part-before (codes "/v1/rings/" ++ 256 ∷ 47 ∷ t) text ((codes "/v1/rings/" ++ ring) ++ 47 ∷ t)
    (11, 15) [] 0 0
    (codes "/v1/rings/") (47 ∷ t) ring t (plain-text (codes "/v1/rings/") refl) free refl
    (omega arith) (omega arith)
    refl (ring_front ring (47 ∷ t)) ∙ ap (λ (l : List ℕ). (l, ring) ∷ []) name

on-ring : (t : List ℕ) (endpoint : TableRow) (path : List ℕ) → is_plain t ≡ true → IsText path
    → IsUtf8 path
    → part_of (ring_row (47 ∷ t) endpoint).1.text 11 15 ≡ codes "ring"
    → ((ring : List ℕ) → IsPathSegment ring
    → HasRow ((codes "/v1/rings/" ++ ring) ++ 47 ∷ t) endpoint ring [] [])
    → Follows (ring_row (47 ∷ t) endpoint).0 path → IsRouted path (ring_row (47 ∷ t) endpoint).1
on-ring t endpoint path plain text utf8 name routed f =
    let cut = ring-cut t path text utf8 f in
    let tail = begins-with t [] cut.1 (plain-text t plain) (subst (λ (w : List ℕ). Follows w cut.1)
    (sym (append-nil t)) cut.7) in
    let rest : cut.1 ≡ t = tail.1 ∙ ap (λ (l : List ℕ). t ++ l) tail.2 ∙ append-nil t in
    let is : path ≡ (codes "/v1/rings/" ++ cut.0) ++ 47 ∷ t =
    cut.2 ∙ ap (λ (l : List ℕ). (codes "/v1/rings/" ++ cut.0) ++ 47 ∷ l) rest in
    subst (λ (p : List ℕ). IsRouted p (ring_row (47 ∷ t) endpoint).1) (sym is)
    (made t endpoint name routed cut.0 cut.3 cut.4)
  where
    made : (t : List ℕ) (endpoint : TableRow) → part_of (ring_row (47 ∷ t) endpoint).1.text 11 15
        ≡ codes "ring"
        → ((ring : List ℕ) → IsPathSegment ring
        → HasRow ((codes "/v1/rings/" ++ ring) ++ 47 ∷ t) endpoint ring [] [])
        → (ring : List ℕ) → IsPiece ring → IsUtf8 ring
        → IsRouted ((codes "/v1/rings/" ++ ring) ++ 47 ∷ t) (ring_row (47 ∷ t) endpoint).1
    made t endpoint name routed ring is utf8 = record {
      texts = subst AllText (sym (ring_parts t (ring_row (47 ∷ t) endpoint).1.text ring is.1 name))
          (plain-utf8 (codes "ring") refl, utf8, tt);
      has = subst (λ (pairs : List (List ℕ × List ℕ)).
          HasRow ((codes "/v1/rings/" ++ ring) ++ 47 ∷ t) endpoint
          (part_named (codes "ring") pairs) (part_named (codes "version") pairs)
          (part_named (codes "word") pairs))
          (sym (ring_parts t (ring_row (47 ∷ t) endpoint).1.text ring is.1 name))
          (routed ring (segment-of ring is utf8));
    }

text_parts : (ring version : List ℕ) → IsFree ring
    → parts ((codes "/v1/rings/" ++ ring) ++ codes "/text/" ++ version) text_row.1
    ≡ (codes "ring", ring) ∷ (codes "version", version) ∷ []
text_parts ring version free =
    let path : List ℕ = (codes "/v1/rings/" ++ ring) ++ codes "/text/" ++ version in
    let cut : path ≡ (codes "/v1/rings/" ++ ring) ++ (codes "/text/" ++ version) =
    append_assoc (codes "/v1/rings/" ++ ring) (codes "/text/") version in
    let long : length path ≡ length (codes "/v1/rings/" ++ ring) + length
    (codes "/text/" ++ version) =
    ap (λ (l : List ℕ). length l) cut
    ∙ length-append (codes "/v1/rings/" ++ ring) (codes "/text/" ++ version) in
    let fore : length (codes "/v1/rings/" ++ ring) ≡ 0 + 10 + length ring = omega arith in
    part-before text_row.0 text_row.1.text path (11, 15) ((23, 30) ∷ []) 0 0 (codes "/v1/rings/")
    (codes "/text/" ++ 256 ∷ []) ring (codes "text/" ++ version)
    (plain-text (codes "/v1/rings/") refl) free refl
    (omega arith) (omega arith) refl (cut ∙ ring_front ring (codes "/text/" ++ version))
    ∙ ap (λ (l : List (List ℕ × List ℕ)). (codes "ring", ring) ∷ l)
    (part-last text_row.0 text_row.1.text path (23, 30) 11 (0 + 10 + length ring) (codes "/text/")
    version
    (plain-text (codes "/text/") refl) (omega arith) (omega (arith, long, fore)) refl
    (ap (λ (l : List ℕ). drop (0 + 10 + length ring) l) cut
    ∙ drop_at (codes "/v1/rings/" ++ ring) (codes "/text/" ++ version) (0 + 10 + length ring) fore))

on-text : (path : List ℕ) → IsText path → IsUtf8 path → Follows text_row.0 path
    → IsRouted path text_row.1
on-text path text utf8 f =
    let cut = ring-cut (codes "text/" ++ 256 ∷ []) path text utf8 f in
    let front = begins-with (codes "text/") (256 ∷ []) cut.1 (plain-text (codes "text/") refl) cut.7
    in
    let whole : IsText (codes "text/" ++ front.0) = subst IsText front.1 cut.6 in
    let piece = takes-piece [] front.0 (text-behind (codes "text/") front.0 whole) front.2 in
    let rest : cut.1 ≡ codes "text/" ++ piece.0 =
    front.1 ∙ ap (λ (l : List ℕ). codes "text/" ++ l) (piece.2
    ∙ ap (λ (l : List ℕ). piece.0 ++ l) piece.4 ∙ append-nil piece.0) in
    let is : path ≡ (codes "/v1/rings/" ++ cut.0) ++ codes "/text/" ++ piece.0 =
    cut.2 ∙ ap (λ (l : List ℕ). (codes "/v1/rings/" ++ cut.0) ++ 47 ∷ l) rest
    ∙ sym (append_assoc (codes "/v1/rings/" ++ cut.0) (codes "/text/") piece.0) in
    let version : IsUtf8 piece.0 = utf8-behind (codes "/text/") piece.0
    (subst IsUtf8 (ap (λ (l : List ℕ). 47 ∷ l) rest) cut.5) (plain-utf8 (codes "/text/") refl) in
    subst (λ (p : List ℕ). IsRouted p text_row.1) (sym is)
    (made cut.0 piece.0 cut.3 cut.4 piece.3 version)
  where
    made : (ring version : List ℕ) → IsPiece ring → IsUtf8 ring → IsPiece version → IsUtf8 version
        → IsRouted ((codes "/v1/rings/" ++ ring) ++ codes "/text/" ++ version) text_row.1
    made ring version is utf8 also valid = record {
      texts = subst AllText (sym (text_parts ring version is.1))
          (plain-utf8 (codes "ring") refl, utf8, (plain-utf8 (codes "version") refl, valid, tt));
      has = subst (λ (pairs : List (List ℕ × List ℕ)).
          HasRow ((codes "/v1/rings/" ++ ring) ++ codes "/text/" ++ version) Text
          (part_named (codes "ring") pairs) (part_named (codes "version") pairs)
          (part_named (codes "word") pairs))
          (sym (text_parts ring version is.1))
          (refl, segment-of ring is utf8, segment-of version also valid);
    }

swift_parts : (ring version : List ℕ) → IsFree ring
    → parts ((codes "/v1/rings/" ++ ring) ++ codes "/swift/" ++ version) swift_row.1
    ≡ (codes "ring", ring) ∷ (codes "version", version) ∷ []
swift_parts ring version free =
    let path : List ℕ = (codes "/v1/rings/" ++ ring) ++ codes "/swift/" ++ version in
    let cut : path ≡ (codes "/v1/rings/" ++ ring) ++ (codes "/swift/" ++ version) =
    append_assoc (codes "/v1/rings/" ++ ring) (codes "/swift/") version in
    let long : length path ≡ length (codes "/v1/rings/" ++ ring) + length
    (codes "/swift/" ++ version) =
    ap (λ (l : List ℕ). length l) cut
    ∙ length-append (codes "/v1/rings/" ++ ring) (codes "/swift/" ++ version) in
    let fore : length (codes "/v1/rings/" ++ ring) ≡ 0 + 10 + length ring = omega arith in
    part-before swift_row.0 swift_row.1.text path (11, 15) ((24, 31) ∷ []) 0 0 (codes "/v1/rings/")
    (codes "/swift/" ++ 256 ∷ []) ring (codes "swift/" ++ version)
    (plain-text (codes "/v1/rings/") refl) free refl
    (omega arith) (omega arith) refl (cut ∙ ring_front ring (codes "/swift/" ++ version))
    ∙ ap (λ (l : List (List ℕ × List ℕ)). (codes "ring", ring) ∷ l)
    (part-last swift_row.0 swift_row.1.text path (24, 31) 11 (0 + 10 + length ring) (codes "/swift/")
    version
    (plain-text (codes "/swift/") refl) (omega arith) (omega (arith, long, fore)) refl
    (ap (λ (l : List ℕ). drop (0 + 10 + length ring) l) cut
    ∙ drop_at (codes "/v1/rings/" ++ ring) (codes "/swift/" ++ version) (0 + 10 + length ring) fore))

on-swift : (path : List ℕ) → IsText path → IsUtf8 path → Follows swift_row.0 path
    → IsRouted path swift_row.1
on-swift path text utf8 f =
    let cut = ring-cut (codes "swift/" ++ 256 ∷ []) path text utf8 f in
    let front = begins-with (codes "swift/") (256 ∷ []) cut.1 (plain-text (codes "swift/") refl) cut.7
    in
    let whole : IsText (codes "swift/" ++ front.0) = subst IsText front.1 cut.6 in
    let piece = takes-piece [] front.0 (text-behind (codes "swift/") front.0 whole) front.2 in
    let rest : cut.1 ≡ codes "swift/" ++ piece.0 =
    front.1 ∙ ap (λ (l : List ℕ). codes "swift/" ++ l) (piece.2
    ∙ ap (λ (l : List ℕ). piece.0 ++ l) piece.4 ∙ append-nil piece.0) in
    let is : path ≡ (codes "/v1/rings/" ++ cut.0) ++ codes "/swift/" ++ piece.0 =
    cut.2 ∙ ap (λ (l : List ℕ). (codes "/v1/rings/" ++ cut.0) ++ 47 ∷ l) rest
    ∙ sym (append_assoc (codes "/v1/rings/" ++ cut.0) (codes "/swift/") piece.0) in
    let version : IsUtf8 piece.0 = utf8-behind (codes "/swift/") piece.0
    (subst IsUtf8 (ap (λ (l : List ℕ). 47 ∷ l) rest) cut.5) (plain-utf8 (codes "/swift/") refl) in
    subst (λ (p : List ℕ). IsRouted p swift_row.1) (sym is)
    (made cut.0 piece.0 cut.3 cut.4 piece.3 version)
  where
    made : (ring version : List ℕ) → IsPiece ring → IsUtf8 ring → IsPiece version → IsUtf8 version
        → IsRouted ((codes "/v1/rings/" ++ ring) ++ codes "/swift/" ++ version) swift_row.1
    made ring version is utf8 also valid = record {
      texts = subst AllText (sym (swift_parts ring version is.1))
          (plain-utf8 (codes "ring") refl, utf8, (plain-utf8 (codes "version") refl, valid, tt));
      has = subst (λ (pairs : List (List ℕ × List ℕ)).
          HasRow ((codes "/v1/rings/" ++ ring) ++ codes "/swift/" ++ version) Swift
          (part_named (codes "ring") pairs) (part_named (codes "version") pairs)
          (part_named (codes "word") pairs))
          (sym (swift_parts ring version is.1))
          (refl, segment-of ring is utf8, segment-of version also valid);
    }

word_parts : (ring word : List ℕ) → IsFree ring
    → parts ((codes "/v1/rings/" ++ ring) ++ 47 ∷ word) word_row.1
    ≡ (codes "ring", ring) ∷ (codes "word", word) ∷ []
word_parts ring word free =
    let path : List ℕ = (codes "/v1/rings/" ++ ring) ++ 47 ∷ word in
    let long : length path ≡ length (codes "/v1/rings/" ++ ring) + length (47 ∷ word) =
    length-append (codes "/v1/rings/" ++ ring) (47 ∷ word) in
    let fore : length (codes "/v1/rings/" ++ ring) ≡ 0 + 10 + length ring = omega arith in
    part-before word_row.0 word_row.1.text path (11, 15) ((18, 22) ∷ []) 0 0 (codes "/v1/rings/")
    (47 ∷ 256 ∷ []) ring word
    (plain-text (codes "/v1/rings/") refl) free refl
    (omega arith) (omega arith) refl (ring_front ring (47 ∷ word))
    ∙ ap (λ (l : List (List ℕ × List ℕ)). (codes "ring", ring) ∷ l)
    (part-last word_row.0 word_row.1.text path (18, 22) 11 (0 + 10 + length ring) (47 ∷ [])
    word
    (plain-text (47 ∷ []) refl) (omega arith) (omega (arith, long, fore)) refl
    (drop_at (codes "/v1/rings/" ++ ring) (47 ∷ word) (0 + 10 + length ring) fore))

on-word : (path : List ℕ) → IsText path → IsUtf8 path → Follows word_row.0 path
    → IsRouted path word_row.1
on-word path text utf8 f =
    let cut = ring-cut (256 ∷ []) path text utf8 f in
    let piece = takes-piece [] cut.1 cut.6 cut.7 in
    let rest : cut.1 ≡ piece.0 = piece.2
    ∙ ap (λ (l : List ℕ). piece.0 ++ l) piece.4 ∙ append-nil piece.0 in
    let is : path ≡ (codes "/v1/rings/" ++ cut.0) ++ 47 ∷ piece.0 =
    cut.2 ∙ ap (λ (l : List ℕ). (codes "/v1/rings/" ++ cut.0) ++ 47 ∷ l) rest in
    let word : IsUtf8 piece.0 = utf8-behind (47 ∷ []) piece.0
    (subst IsUtf8 (ap (λ (l : List ℕ). 47 ∷ l) rest) cut.5) (plain-utf8 (47 ∷ []) refl) in
    subst (λ (p : List ℕ). IsRouted p word_row.1) (sym is)
    (made cut.0 piece.0 cut.3 cut.4 word)
  where
    made : (ring word : List ℕ) → IsPiece ring → IsUtf8 ring → IsUtf8 word
        → IsRouted ((codes "/v1/rings/" ++ ring) ++ 47 ∷ word) word_row.1
    made ring word is utf8 valid = record {
      texts = subst AllText (sym (word_parts ring word is.1))
          (plain-utf8 (codes "ring") refl, utf8, (plain-utf8 (codes "word") refl, valid, tt));
      has = subst (λ (pairs : List (List ℕ × List ℕ)).
          HasRow ((codes "/v1/rings/" ++ ring) ++ 47 ∷ word) Word
          (part_named (codes "ring") pairs) (part_named (codes "version") pairs)
          (part_named (codes "word") pairs))
          (sym (word_parts ring word is.1))
          (refl, segment-of ring is utf8, refl);
    }

whole_parts : (ring : List ℕ) → parts (codes "/v1/rings/" ++ ring) whole_row.1
    ≡ (codes "ring", ring) ∷ []
whole_parts ring = part-last whole_row.0 whole_row.1.text (codes "/v1/rings/" ++ ring) (11, 15)
    0 0
    (codes "/v1/rings/") ring (plain-text (codes "/v1/rings/") refl) (omega arith) (omega arith)
    refl refl

on-whole : (path : List ℕ) → IsText path → IsUtf8 path → Follows whole_row.0 path
    → IsRouted path whole_row.1
on-whole path text utf8 f =
    let front = begins-with (codes "/v1/rings/") (256 ∷ []) path
    (plain-text (codes "/v1/rings/") refl) f in
    let whole : IsText (codes "/v1/rings/" ++ front.0) = subst IsText front.1 text in
    let piece = takes-piece [] front.0 (text-behind (codes "/v1/rings/") front.0 whole) front.2 in
    let is : path ≡ codes "/v1/rings/" ++ piece.0 =
    front.1 ∙ ap (λ (l : List ℕ). codes "/v1/rings/" ++ l) (piece.2
    ∙ ap (λ (l : List ℕ). piece.0 ++ l) piece.4 ∙ append-nil piece.0) in
    let ringed : IsUtf8 piece.0 = utf8-behind (codes "/v1/rings/") piece.0 (subst IsUtf8 is utf8)
    (plain-utf8 (codes "/v1/rings/") refl) in
    subst (λ (p : List ℕ). IsRouted p whole_row.1) (sym is) (made piece.0 piece.3 ringed)
  where
    made : (ring : List ℕ) → IsPiece ring → IsUtf8 ring
        → IsRouted (codes "/v1/rings/" ++ ring) whole_row.1
    made ring is utf8 = record {
      texts = subst AllText (sym (whole_parts ring)) (plain-utf8 (codes "ring") refl, utf8, tt);
      has = subst (λ (pairs : List (List ℕ × List ℕ)). HasRow (codes "/v1/rings/" ++ ring) Ring
          (part_named (codes "ring") pairs) (part_named (codes "version") pairs)
          (part_named (codes "word") pairs))
          (sym (whole_parts ring))
          (refl, segment-of ring is utf8, refl);
    }

by_row : (path : List ℕ) (row found : Row) → row ≡ found → IsRouted path row → IsRouted path found
by_row path row found is r = subst (IsRouted path) is r

-- what the router finds is a route of the path
pub found-routed : (path : List ℕ) (row : Row) → IsText path → IsUtf8 path → first all_routes path
    ≡ Some row → IsRouted path row
found-routed path row text utf8 found = by (seek-found 0 all_routes path row found)
  where
    by : IsFound row all_routes path → IsRouted path row
    by (inl f) = by_row path _ row f.0 (on-import path text utf8 f.1)
    by (inr (inl f)) = by_row path _ row f.0 (on-log path f.1)
    by (inr (inr (inl f))) = by_row path _ row f.0 (on-metrics path f.1)
    by (inr (inr (inr (inl f)))) = by_row path _ row f.0 (on-page path f.1)
    by (inr (inr (inr (inr (inl f))))) = by_row path _ row f.0 (on-requests path f.1)
    by (inr (inr (inr (inr (inr (inl f)))))) = by_row path _ row f.0
        (on-ring (codes "nodes") Nodes path refl text utf8 refl
        (λ ring is. (refl, is, refl)) f.1)
    by (inr (inr (inr (inr (inr (inr (inl f))))))) = by_row path _ row f.0 (on-swift path text utf8 f.1)
    by (inr (inr (inr (inr (inr (inr (inr (inl f)))))))) = by_row path _ row f.0 (on-text path text utf8 f.1)
    by (inr (inr (inr (inr (inr (inr (inr (inr (inl f))))))))) =
        by_row path _ row f.0 (on-word path text utf8 f.1)
    by (inr (inr (inr (inr (inr (inr (inr (inr (inr (inl f)))))))))) =
        by_row path _ row f.0 (on-whole path text utf8 f.1)
    by (inr (inr (inr (inr (inr (inr (inr (inr (inr (inr (inl f))))))))))) =
        by_row path _ row f.0 (on-rings path f.1)
    by (inr (inr (inr (inr (inr (inr (inr (inr (inr (inr (inr (inl f)))))))))))) =
        by_row path _ row f.0 (on-status path f.1)
    by (inr (inr (inr (inr (inr (inr (inr (inr (inr (inr (inr (inr f)))))))))))) = absurd f

-- a plain read shows the whole ring, or doesn't
is_whole : (asked : Plain) → (asked ≡ plain.Ring) ⊎ (asked ≢ plain.Ring)
is_whole plain.Devices = inr (λ e. cc)
is_whole plain.Balance = inr (λ e. cc)
is_whole plain.Ring = inl refl
is_whole plain.Locks = inr (λ e. cc)

tail_is : (asked : Plain) → asked ≢ plain.Ring → plain_tail asked ≡ 47 ∷ plain_word asked
tail_is plain.Devices other = refl
tail_is plain.Balance other = refl
tail_is plain.Ring other = absurd (other refl)
tail_is plain.Locks other = refl

-- a path with this row has the route to the endpoint that the row leads to
pub leads-to : (path : List ℕ) (row : TableRow) (at : Endpoint) (ring version word : List ℕ) →
    RowLeadsTo row word at → HasRow path row ring version word → HasRoute path at ring version
leads-to path Requests endpoint.Requests ring version word leads h = h
leads-to path Import endpoint.Import ring version word leads h = h
leads-to path Nodes endpoint.Nodes ring version word leads h = h
leads-to path Text endpoint.Text ring version word leads h = h
leads-to path Swift endpoint.Swift ring version word leads h = h
leads-to path Rings endpoint.Rings ring version word leads h = h
leads-to path Status endpoint.Status ring version word leads h = h
leads-to path Metrics endpoint.Metrics ring version word leads h = h
leads-to path Log endpoint.Log ring version word leads h = h
leads-to path Page endpoint.Page ring version word leads h = h
leads-to path Ring (endpoint.Word asked) ring version word leads h = (
  h.0 ∙ sym (append-nil (ring_path ring)) ∙ ap (λ p. ring_path ring ++ plain_tail p) (sym leads),
  h.1,
  h.2,
)
leads-to path Word (endpoint.Word asked) ring version word leads h = (
  h.0 ∙ ap (λ (w : List ℕ). ring_path ring ++ 47 ∷ w) leads.1
      ∙ ap (λ (t : List ℕ). ring_path ring ++ t) (sym (tail_is asked leads.0)),
  h.1,
  h.2,
)
leads-to path Word endpoint.Preview ring version word leads h = (
  h.0 ∙ ap (λ (w : List ℕ). ring_path ring ++ 47 ∷ w) leads,
  h.1,
  h.2,
)
leads-to path Word endpoint.Moves ring version word leads h = (
  h.0 ∙ ap (λ (w : List ℕ). ring_path ring ++ 47 ∷ w) leads,
  h.1,
  h.2,
)
leads-to path _ _ ring version word leads h = absurd leads

abbrev pub HasNone : List ℕ → Type 0
HasNone path = (endpoint : Endpoint) (ring version : List ℕ) → HasRoute path endpoint ring version
    → ⊥

-- the router finds a row of the path that leads to this endpoint
abbrev IsThere : List ℕ → Endpoint → Type 0
IsThere path at = (row : Row) × (first all_routes path ≡ Some row)
    × RowLeadsTo row.value (part_named (codes "word") (parts path row)) at

-- the rows of a ring that go on behind its name
abbrev further_rows : RowsOf Row
further_rows = (codes "/swift/" ++ 256 ∷ [], swift_row.1) ∷ (codes "/text/" ++ 256 ∷ [], text_row.1)
    ∷ (47 ∷ 256 ∷ [], word_row.1) ∷ []

abbrev ring_rows : RowsOf Row
ring_rows = (codes "/nodes", (ring_row (codes "/nodes") Nodes).1) ∷ further_rows

found_in_ring : (path ring rest : List ℕ) (row : Row) → IsText path → path
    ≡ (codes "/v1/rings/" ++ ring) ++ 47 ∷ rest
    → IsPathSegment ring → first ring_rows (47 ∷ rest) ≡ Some row
    → first all_routes path ≡ Some row
found_in_ring path ring rest row text is named found =
    let whole : path ≡ codes "/v1/rings/" ++ (ring ++ 47 ∷ rest) = is
    ∙ ring_front ring (47 ∷ rest) in
    let bytes : IsText ring = text-before ring (47 ∷ rest)
    (text-behind (codes "/v1/rings/") (ring ++ 47 ∷ rest) (subst IsText whole text)) in
    ap (λ (l : List ℕ). first all_routes l) whole
    ∙ bytes-first (codes "/v1/rings/") all_routes (ring ++ 47 ∷ rest) row
    (between-first (codes "/nodes") (ring_row (codes "/nodes") Nodes).1 further_rows whole_row.1
    ring rest row (piece-of ring named) bytes (refl, (refl, (refl, (refl, tt)))) found)

-- a path that ends behind the ring's name has the row of the whole ring
found_whole : (path ring : List ℕ) → IsText path → path ≡ codes "/v1/rings/" ++ ring
    → IsPathSegment ring → first all_routes path ≡ Some whole_row.1
found_whole path ring text is named =
    let bytes : IsText ring = text-behind (codes "/v1/rings/") ring (subst IsText is text) in
    ap (λ (l : List ℕ). first all_routes l) is
    ∙ bytes-first (codes "/v1/rings/") all_routes ring whole_row.1
    (end-first ring_rows whole_row.1 ring (piece-of ring named) bytes
    (refl, (refl, (refl, (refl, tt)))))

row-ends : (row : Row) → first (([], row) ∷ []) [] ≡ Some row
unfolding matchit_on_literals
row-ends row = refl

-- a path that ends in front of the names of rings has the row of the rings
rings-end : first (steps (codes "/v1/rings") all_routes) [] ≡ Some rings_row.1
unfolding matchit_on_literals
rings-end = refl

-- a plain read's word has the row of words
word-first : (asked : Plain) → first ring_rows (47 ∷ plain_word asked) ≡ Some word_row.1
unfolding matchit_on_literals
word-first plain.Devices = refl
word-first plain.Balance = refl
word-first plain.Ring = refl
word-first plain.Locks = refl

-- and so have those of a preview and of what moved
preview-first : first ring_rows (codes "/preview") ≡ Some word_row.1
unfolding matchit_on_literals
preview-first = refl

moves-first : first ring_rows (codes "/moves") ≡ Some word_row.1
unfolding matchit_on_literals
moves-first = refl

-- what the row of words takes for the word
word-part : (path ring word : List ℕ) → path ≡ (codes "/v1/rings/" ++ ring) ++ 47 ∷ word
    → IsPathSegment ring → part_named (codes "word") (parts path word_row.1) ≡ word
word-part path ring word is named =
    ap (λ (p : List ℕ). part_named (codes "word") (parts p word_row.1)) is
    ∙ ap (part_named (codes "word")) (word_parts ring word (piece-of ring named).1)

-- a path that has a route is found
there : (path : List ℕ) (at : Endpoint) (ring version : List ℕ) → IsText path
    → HasRoute path at ring version → IsThere path at
there path endpoint.Requests ring version text h = (
  requests_row.1,
  ap (λ (l : List ℕ). first all_routes l) h.0
      ∙ bytes-first (codes "/v1/requests") all_routes [] requests_row.1 (row-ends requests_row.1),
  tt,
)
there path endpoint.Import ring version text h =
    let bytes : IsText ring = text-behind (codes "/v1/import/") ring (subst IsText h.0 text) in (
      import_row.1,
      ap (λ (l : List ℕ). first all_routes l) h.0
          ∙ bytes-first (codes "/v1/import/") all_routes ring import_row.1
          (last-first import_row.1 ring (piece-of ring h.1) bytes),
      tt,
    )
there path endpoint.Rings ring version text h = (
  rings_row.1,
  ap (λ (l : List ℕ). first all_routes l) h.0
      ∙ bytes-first (codes "/v1/rings") all_routes [] rings_row.1 rings-end,
  tt,
)
there path endpoint.Status ring version text h = (
  status_row.1,
  ap (λ (l : List ℕ). first all_routes l) h.0
      ∙ bytes-first (codes "/v1/status") all_routes [] status_row.1 (row-ends status_row.1),
  tt,
)
there path endpoint.Metrics ring version text h = (
  metrics_row.1,
  ap (λ (l : List ℕ). first all_routes l) h.0
      ∙ bytes-first (codes "/v1/metrics") all_routes [] metrics_row.1 (row-ends metrics_row.1),
  tt,
)
there path endpoint.Page ring version text h = (
  page_row.1,
  ap (λ (l : List ℕ). first all_routes l) h.0
      ∙ bytes-first (codes "/v1/page") all_routes [] page_row.1 (row-ends page_row.1),
  tt,
)
there path endpoint.Log ring version text h = (
  log_row.1,
  ap (λ (l : List ℕ). first all_routes l) h.0
      ∙ bytes-first (codes "/v1/log") all_routes [] log_row.1 (row-ends log_row.1),
  tt,
)
there path (endpoint.Word asked) ring version text h = elim (is_whole asked) [
  | inl whole ↦
      let is : path ≡ codes "/v1/rings/" ++ ring =
      h.0 ∙ ap (λ p. ring_path ring ++ plain_tail p) whole ∙ append-nil (ring_path ring) in
      (whole_row.1, found_whole path ring text is h.1, whole)
  | inr other ↦
      let is : path ≡ ring_path ring ++ 47 ∷ plain_word asked =
      h.0 ∙ ap (λ (t : List ℕ). ring_path ring ++ t) (tail_is asked other) in (
        word_row.1,
        found_in_ring path ring (plain_word asked) word_row.1 text is h.1 (word-first asked),
        (other, word-part path ring (plain_word asked) is h.1),
      )
]
there path endpoint.Nodes ring version text h = (
  (ring_row (codes "/nodes") Nodes).1,
  found_in_ring path ring (codes "nodes") (ring_row (codes "/nodes") Nodes).1 text h.0 h.1
      (bytes-first (codes "/nodes") ring_rows [] (ring_row (codes "/nodes") Nodes).1
      (row-ends (ring_row (codes "/nodes") Nodes).1)),
  tt,
)
there path endpoint.Text ring version text h =
    let is : path ≡ (codes "/v1/rings/" ++ ring) ++ (codes "/text/" ++ version) =
    h.0 ∙ append_assoc (codes "/v1/rings/" ++ ring) (codes "/text/") version in
    let bytes : IsText version = text-behind (codes "/text/") version
    (text-behind (codes "/v1/rings/" ++ ring) (codes "/text/" ++ version) (subst IsText is text)) in (
      text_row.1,
      found_in_ring path ring (codes "text/" ++ version) text_row.1 text is h.1
          (bytes-first (codes "/text/") ring_rows version text_row.1
          (last-first text_row.1 version (piece-of version h.2) bytes)),
      tt,
    )
there path endpoint.Swift ring version text h =
    let is : path ≡ (codes "/v1/rings/" ++ ring) ++ (codes "/swift/" ++ version) =
    h.0 ∙ append_assoc (codes "/v1/rings/" ++ ring) (codes "/swift/") version in
    let bytes : IsText version = text-behind (codes "/swift/") version
    (text-behind (codes "/v1/rings/" ++ ring) (codes "/swift/" ++ version) (subst IsText is text)) in (
      swift_row.1,
      found_in_ring path ring (codes "swift/" ++ version) swift_row.1 text is h.1
          (bytes-first (codes "/swift/") ring_rows version swift_row.1
          (last-first swift_row.1 version (piece-of version h.2) bytes)),
      tt,
    )
there path endpoint.Preview ring version text h = (
  word_row.1,
  found_in_ring path ring (codes "preview") word_row.1 text h.0 h.1 preview-first,
  word-part path ring (codes "preview") h.0 h.1,
)
there path endpoint.Moves ring version text h = (
  word_row.1,
  found_in_ring path ring (codes "moves") word_row.1 text h.0 h.1 moves-first,
  word-part path ring (codes "moves") h.0 h.1,
)

pub none-found : (path : List ℕ) → IsText path → first all_routes path ≡ None → HasNone path
none-found path text none at ring version h =
    let some = there path at ring version text h in cc (none, some.1)

same_row : (a b : Row) → Some a ≡ Some b → a ≡ b
same_row a b e = cc

-- where the row that is found leads nowhere, the path has no route
pub none-leads : (path : List ℕ) (row : Row) → IsText path → first all_routes path ≡ Some row
    → ((at : Endpoint) → RowLeadsTo row.value (part_named (codes "word") (parts path row)) at → ⊥)
    → HasNone path
none-leads path row text found none at ring version h =
    let some = there path at ring version text h in
    none at (subst (λ (r : Row). RowLeadsTo r.value (part_named (codes "word") (parts path r)) at)
    (same_row some.0 row (sym some.1 ∙ found)) some.2)

in-ring : (ring tail : List ℕ) → IsPathSegment ring → IsUtf8 tail
    → IsUtf8 ((codes "/v1/rings/" ++ ring) ++ tail)
in-ring ring tail named utf8 = IsUtf8-append (codes "/v1/rings/" ++ ring) tail
    (IsUtf8-append (codes "/v1/rings/") ring (plain-utf8 (codes "/v1/rings/") refl) named.2) utf8

tail-utf8 : (asked : Plain) → IsUtf8 (plain_tail asked)
tail-utf8 plain.Devices = plain-utf8 (codes "/devices") refl
tail-utf8 plain.Balance = plain-utf8 (codes "/balance") refl
tail-utf8 plain.Ring = plain-utf8 [] refl
tail-utf8 plain.Locks = plain-utf8 (codes "/locks") refl

-- a path that has a route is text
pub routed-utf8 : (path : List ℕ) (endpoint : Endpoint) (ring version : List ℕ)
    → HasRoute path endpoint ring version → IsUtf8 path
routed-utf8 path endpoint.Requests ring version h = subst IsUtf8 (sym h.0)
    (plain-utf8 (codes "/v1/requests") refl)
routed-utf8 path endpoint.Import ring version h =
    subst IsUtf8 (sym h.0) (IsUtf8-append (codes "/v1/import/") ring
    (plain-utf8 (codes "/v1/import/") refl) h.1.2)
routed-utf8 path endpoint.Rings ring version h = subst IsUtf8 (sym h.0)
    (plain-utf8 (codes "/v1/rings") refl)
routed-utf8 path endpoint.Status ring version h = subst IsUtf8 (sym h.0)
    (plain-utf8 (codes "/v1/status") refl)
routed-utf8 path endpoint.Metrics ring version h = subst IsUtf8 (sym h.0)
    (plain-utf8 (codes "/v1/metrics") refl)
routed-utf8 path endpoint.Page ring version h = subst IsUtf8 (sym h.0)
    (plain-utf8 (codes "/v1/page") refl)
routed-utf8 path endpoint.Log ring version h = subst IsUtf8 (sym h.0)
    (plain-utf8 (codes "/v1/log") refl)
routed-utf8 path (endpoint.Word asked) ring version h = subst IsUtf8 (sym h.0)
    (in-ring ring (plain_tail asked) h.1 (tail-utf8 asked))
routed-utf8 path endpoint.Nodes ring version h = subst IsUtf8 (sym h.0)
    (in-ring ring (codes "/nodes") h.1 (plain-utf8 (codes "/nodes") refl))
routed-utf8 path endpoint.Text ring version h = subst IsUtf8 (sym h.0)
    (IsUtf8-append ((codes "/v1/rings/" ++ ring) ++ codes "/text/") version
    (in-ring ring (codes "/text/") h.1 (plain-utf8 (codes "/text/") refl)) h.2.2)
routed-utf8 path endpoint.Swift ring version h = subst IsUtf8 (sym h.0)
    (IsUtf8-append ((codes "/v1/rings/" ++ ring) ++ codes "/swift/") version
    (in-ring ring (codes "/swift/") h.1 (plain-utf8 (codes "/swift/") refl)) h.2.2)
routed-utf8 path endpoint.Preview ring version h = subst IsUtf8 (sym h.0)
    (in-ring ring (codes "/preview") h.1 (plain-utf8 (codes "/preview") refl))
routed-utf8 path endpoint.Moves ring version h = subst IsUtf8 (sym h.0)
    (in-ring ring (codes "/moves") h.1 (plain-utf8 (codes "/moves") refl))

-- what is shown of a part that may be missing
pub shown-part : {B : Type 0} (view : B → List ℕ) (result : Option B) (other : B)
    (part : Option (List ℕ)) → view other ≡ []
    → MatchOption result (part ≡ None) (λ value. part ≡ Some (view value))
    → view (unwrap_or result other) ≡ unwrap_or part []
shown-part view None other part empty is = rw is empty
shown-part view (Some value) other part empty is = rw is refl
