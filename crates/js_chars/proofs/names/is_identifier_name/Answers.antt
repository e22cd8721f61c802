use Rattle.std.proofs.Common.{List, ℕ, ◌&&◌, ap, sym, ◌∙◌}
use Rattle.std.proofs.lemmas.Str.{chars_past_char}
use Rattle.std.specs.List.{list_all}
use Rattle.std.specs.Str.{chars}
use Rattle.js_chars.specs.Names as spec
use Rattle.js_chars.proofs.names.is_identifier_name.Goals as goal

pub returns-then-is_identifier_start : goal.returns-then-is_identifier_start
returns-then-is_identifier_start c =
    let parts = λ (t : List ℕ). list_all spec.is_identifier_part (chars t) in
    let text_is = sym c.chars-rest.ensures.rest ∙ c.in-Some.ensures.steps.0 in
    let front = chars_past_char c.args.text.now c.next.new.self.rest.now c.in-Some.first c.utf8.text text_is in
    let starts = sym c.is_identifier_start.ensures ∙ c.if-is_identifier_start.true in
    let name = ap spec.is_identifier_name front ∙ ap (λ b. b && parts c.next.new.self.rest.now) starts in
    c.are_parts.ensures ∙ ap parts c.as_str.ensures ∙ sym name
