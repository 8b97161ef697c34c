use Rattle.std.proofs.Common.{rules, refl, take, ◌∙◌, ◌≡◌, ◌++◌, List, ℕ, ◌<◌, length, ap, sym}
use Rattle.std.proofs.Common.{map, string_bytes, arith}
use Rattle.std.specs.List.{zip}
use Rattle.std.specs.Prelude.{slice_get}
use Rattle.ring_words.specs.declared.device.Device.{Device}
use Rattle.ring_share.specs.Want.{AreWanted}
use Rattle.ring_share.proofs.Standing.{read_at}
use Rattle.std.proofs.lemmas.List.{take_all}
use Rattle.std.proofs.lemmas.Slice.Zip.{length-zip}
use Rattle.ring_share.proofs.Determined.{same_wants}
use Rattle.ring_tables.specs.Layout.{row, table}
use Rattle.ring_tables.specs.Tables.{balance_columns, balance_titles, balance_texts, figures_line}
use Rattle.ring_tables.proofs.Lists.{pair_at, pair_below}
use Rattle.ring_tables.proofs.RowByRow.{next_row}
use Rattle.ring_tables.proofs.balances.balance_table.Goals as goal

pub push_balance-requires : goal.push_balance-requires
push_balance-requires c =
    let devices = c.devices-device-items.result.now in
    let read = read_at devices c.loop-place.place c.device-item.result (omega arith)
    c.device-item.is in
    c.counts_of-counts.ensures c.loop-place.place c.device-item.result
    (ap (λ (all : List Device). slice_get all c.loop-place.place)
    (sym c.devices-device-items.ensures.value) ∙ read)

pub loop-place-preserved : goal.loop-place-preserved
loop-place-preserved c =
    let devices = c.devices-device-items.result.now in
    let wants = c.in_ok-wants.wants.items in
    let texts = λ (e : Device × ℕ). balance_texts c.args.ring.now e.0 e.1 in
    let device = c.device-item.result in
    let want = c.index.result.now in
    let wanted : AreWanted c.args.ring.now wants = search rules in
    let many = wanted.shares.count in
    let same = ap (λ (all : List Device). length all) c.devices-device-items.ensures.value in
    let below : c.loop-place.place < length devices = omega arith in
    let under : c.loop-place.place < length wants = omega (arith, many, same) in
    let text = row balance_columns (balance_texts c.args.ring.now device want) in
    let grown : string_bytes c.push_balance.new.into ≡ string_bytes c.loop-place.table ++ text =
    search rules in
    next_row balance_columns balance_titles texts (zip devices wants) c.loop-place.place (
      device,
      want,
    ) _ _ text
    (pair_below devices wants c.loop-place.place below under)
    (pair_at devices wants c.loop-place.place device want below under c.device-item.is
    c.index.ensures) c.loop-place.invariant refl grown

pub returns-clause-wanted : goal.returns-clause-wanted
returns-clause-wanted c = let wanted : AreWanted c.args.ring.now c.in_ok-wants.wants.items =
    search rules in (c.in_ok-wants.wants.items, wanted)

pub returns-clause-text : goal.returns-clause-text
returns-clause-text c = λ wants are.
    let devices = c.devices-device-items.result.now in
    let found = c.in_ok-wants.wants.items in
    let texts = λ (e : Device × ℕ). balance_texts c.args.ring.now e.0 e.1 in
    let wanted : AreWanted c.args.ring.now found = search rules in
    let last : string_bytes c.in_ok-last.last ≡ figures_line c.args.ring.now = search rules in
    let grown : string_bytes c.push_str.new.self ≡ string_bytes c.loop-place.table ++
    string_bytes c.in_ok-last.last = search rules in
    let long = length-zip devices found in
    let all : take c.loop-place.place (zip devices found) ≡ zip c.args.ring.now.devices wants =
    take_all c.loop-place.place (zip devices found) (omega (arith, long)) ∙ ap
    (λ (ds : List Device). zip ds found) c.devices-device-items.ensures.value ∙ ap
    (zip c.args.ring.now.devices) (same_wants c.args.ring.now found wants wanted are) in
    let rows : string_bytes c.loop-place.table ≡ table balance_columns balance_titles
    (map texts (zip c.args.ring.now.devices wants)) =
    c.loop-place.invariant ∙ ap (λ (es : List (Device × ℕ)). table balance_columns balance_titles
    (map texts es)) all in
    grown ∙ ap (λ (l : List ℕ). l ++ string_bytes c.in_ok-last.last) rows ∙ ap
    (λ (l : List ℕ). table balance_columns balance_titles
    (map texts (zip c.args.ring.now.devices wants)) ++ l) last
