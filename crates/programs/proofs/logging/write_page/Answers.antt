use Rattle.std.proofs.Common.{◌∙◌, [], List, ap, inl, inr, refl, subst, ℕ}
use Rattle.std.proofs.lemmas.Result.{err_from_is_err_and}
use Rattle.builder.specs.Safety.{Entries}
use Rattle.byte_streams.specs.Counted.{writer_of}
use Rattle.byte_streams.specs.Writing.{WritesBeginning}
use Rattle.byte_streams.proofs.KnownLemmas.{Appends-none}
use Rattle.request_book.specs.Content.{entries_from}
use Rattle.request_book.specs.declared.keeper.KeepFault.TheVariants as keep
use Rattle.ring_log.specs.Log.{entries_text}
use Rattle.std.specs.Io.KnownBytes.{Appends}
use Rattle.std.specs.Prelude.{nat_lt}
use Rattle.program_stores.specs.Faults.{stream_fault}
use Rattle.programs.specs.Inner.Pages.{page_size}
use Rattle.programs.proofs.logging.write_page.Goals as goal

pub returns-in_err-entries-clause-broken : goal.returns-in_err-entries-clause-broken
returns-in_err-entries-clause-broken g c =
    let page : Entries = entries_from c.args.place page_size
    (g.K.Keeper.content c.args.keeper.now).book in
    let p = err_from_is_err_and c.from_residual.result c.from_residual.ensures.1 in
    rw (p.1) (record {
      page = page;
      is = λ s. refl;
      wrote = ([], entries_text c.args.form c.args.place page, refl, Appends-none _);
    })

pub returns-in_err-text-clause-broken : goal.returns-in_err-text-clause-broken
returns-in_err-text-clause-broken g c =
    let page : Entries = c.in_ok-entries.entries.items in
    let p = err_from_is_err_and c.from_residual-in_err-text.result
    c.from_residual-in_err-text.ensures.1 in
    rw (p.1) (record {
      page = page;
      is = c.in_ok-entries.ensures.entries;
      wrote = ([], entries_text c.args.form c.args.place page, refl, Appends-none _);
    })

pub returns-in_err-text-clause-cause : goal.returns-in_err-text-clause-cause
returns-in_err-text-clause-cause g c =
    let p = err_from_is_err_and c.from_residual-in_err-text.result
    c.from_residual-in_err-text.ensures.1 in
    rw (p.1) (inl (keep.NoMemory, p.2, c.in_ok-entries.ensures.cause ∙ c.requires, refl))

pub returns-in_err-write_text-clause-broken : goal.returns-in_err-write_text-clause-broken
returns-in_err-write_text-clause-broken g c =
    let page : Entries = c.in_ok-entries.entries.items in
    let text = c.as_bytes.ensures.value ∙ c.in_ok-text.ensures
    ∙ ap (λ (es : Entries). entries_text c.args.form c.args.place es) c.deref.ensures.value in
    let failed = c.in_err-write_text.ensures.failed in
    let p = err_from_is_err_and c.from_residual-in_err-write_text.result
    c.from_residual-in_err-write_text.ensures.1 in
    rw (p.1) (record {
      page = page;
      is = c.in_ok-entries.ensures.entries;
      wrote = subst (λ (bytes : List ℕ). WritesBeginning
          (g.W.Write.contents (writer_of c.args.writer.now))
          (g.W.Write.contents (writer_of c.write_text.new.writer)) bytes) text failed.1;
    })

pub returns-in_err-write_text-clause-cause : goal.returns-in_err-write_text-clause-cause
returns-in_err-write_text-clause-cause g c =
    let failed = c.in_err-write_text.ensures.failed in
    let p = err_from_is_err_and c.from_residual-in_err-write_text.result
    c.from_residual-in_err-write_text.ensures.1 in
    rw (p.1) (inr (
      p.2 ∙ ap stream_fault failed.0,
      c.in_ok-entries.ensures.cause ∙ c.requires,
      c.in_err-write_text.ensures.cause,
    ))

pub returns-clause-written : goal.returns-clause-written
returns-clause-written g c =
    let text = c.as_bytes.ensures.value ∙ c.in_ok-text.ensures
    ∙ ap (λ (es : Entries). entries_text c.args.form c.args.place es) c.deref.ensures.value in
    record {
      page = c.in_ok-entries.entries.items;
      is = c.in_ok-entries.ensures.entries;
      has = ap (λ (n : ℕ). nat_lt n page_size) (c.len.ensures ∙ c.in_ok-entries.entries.ok.0);
      wrote = subst (λ (bytes : List ℕ). Appends
          (g.W.Write.contents (writer_of c.args.writer.now))
          (g.W.Write.contents (writer_of c.write_text.new.writer)) bytes) text
          c.in_ok-write_text.ensures.ok;
      same = c.in_ok-write_text.ensures.cause;
      flushed = c.in_ok-write_text.ensures.flushed;
    }
