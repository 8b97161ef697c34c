use Rattle.http_messages.proofs.audience.is_of_a_page.Goals as goal

pub returns-else-has_field : goal.returns-else-has_field
returns-else-has_field c =
    rw (c.in-Post.is, ← c.has_field.ensures, c.if-has_field.false)
    c.has_field-else-has_field.ensures
