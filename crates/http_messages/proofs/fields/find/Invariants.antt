use Rattle.std.proofs.Common.{take, map}
use Rattle.httparse.specs.Spans.{header_bytes}
use Rattle.http_messages.specs.Fields.{values_named}
use Rattle.http_messages.specs.Inner.Finding.{IsFieldFound}
use Rattle.http_messages.proofs.fields.find.Given as goal

abbrev pub invariant-loop-header : goal.invariant-loop-header
invariant-loop-header l = IsFieldFound l.buf l.found (values_named l.name (map (header_bytes l.buf)
    (take l.header-index l.headers)))
