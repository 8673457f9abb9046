use Rattle.std.proofs.Common.{length, ap, sym, ◌∙◌}
use Rattle.css_tokens.specs.Piece.{Piece}
use Rattle.css_tokens.proofs.Boundaries.{first_boundary}
use Rattle.css_tokens.proofs.Reading.{begins_by, stops_by}
use Rattle.css_tokens.proofs.Spelling.{spells_by}
use Rattle.css_tokens.proofs.reader.next_token.Goals as goal

pub returns-then-is_unread-clause-none : goal.returns-then-is_unread-clause-none
returns-then-is_unread-clause-none c =
    let h = rw c.as_bytes.ensures.value at c.in_ok-kind.ensures in
    stops_by c.args.text.now c.in_ok-kind.kind c.in_ok-kind.length h.value (sym c.is_unread.ensures ∙ c.if-is_unread.true)

pub new-requires : goal.new-requires
new-requires c =
    let h = rw c.as_bytes.ensures.value at c.in_ok-kind.ensures in
    spells_by c.args.text.now c.in_ok-kind.kind c.in_ok-kind.length c.split_at.result.0.now h.value c.split_at.ensures.front

pub returns-clause-token : goal.returns-clause-token
returns-clause-token c =
    let h = rw c.as_bytes.ensures.value at c.in_ok-kind.ensures in
    begins_by c.args.text.now c.in_ok-kind.kind c.in_ok-kind.length c.new.result h.value h.within (sym c.is_unread.ensures ∙ c.if-is_unread.false)
    (ap (λ (p : Piece). p.kind) c.new.ensures)
    (ap (λ (p : Piece). p.text) c.new.ensures ∙ c.split_at.ensures.front)
    (ap (λ (p : Piece). length p.text) c.new.ensures ∙ c.split_at.ensures.front_len)
    (first_boundary c.args.text.now (c.in_ok-kind.kind, c.in_ok-kind.length) c.utf8.text h.value)

pub split_at-requires : goal.split_at-requires
split_at-requires c =
    let h = rw c.as_bytes.ensures.value at c.in_ok-kind.ensures in
    first_boundary c.args.text.now (c.in_ok-kind.kind, c.in_ok-kind.length) c.utf8.text h.value
