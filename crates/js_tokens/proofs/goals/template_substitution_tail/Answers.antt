use Rattle.std.proofs.Common.{◌∙◌, sym, ap, Some, arith}
use Rattle.js_tokens.specs.Templates.{template_end}
use Rattle.js_tokens.proofs.Cuts.{part_ends, opening_within, whole_within, opening_boundary, whole_boundary, middle_is, tail_is}
use Rattle.js_syntax.specs.Tokens.{template_middle, template_tail}
use Rattle.js_syntax.specs.Lexical.{normal_lines}
use Rattle.js_tokens.proofs.goals.template_substitution_tail.Goals as goal

pub split_before-requires : goal.split_before-requires
split_before-requires c = part_ends c.args.text.now c.in_ok-part.part.has_substitution c.in_ok-part.part.rest.now c.utf8.text (ap template_end (sym c.as_bytes.ensures.value) ∙ sym c.in_ok-part.ensures.left)

pub overflow_sub-end-then-part : goal.overflow_sub-end-then-part
overflow_sub-end-then-part c = omega (arith, opening_within c.args.text.now c.in_ok-part.part.rest.now (ap template_end (sym c.as_bytes.ensures.value) ∙ sym c.in_ok-part.ensures.left ∙ ap (λ b. Some (b, c.in_ok-part.part.rest.now)) c.if-part.true))

pub split_at-requires : goal.split_at-requires
split_at-requires c = opening_boundary c.args.text.now c.in_ok-part.part.rest.now c.utf8.text (ap template_end (sym c.as_bytes.ensures.value) ∙ sym c.in_ok-part.ensures.left ∙ ap (λ b. Some (b, c.in_ok-part.part.rest.now)) c.if-part.true)

pub returns-then-part : goal.returns-then-part
returns-then-part c =
    ap (λ z. Some (template_middle (normal_lines c.split_at.result.0.now), z)) c.split_before.ensures.back
    ∙ middle_is c.args.text.now c.in_ok-part.part.rest.now c.split_at.result.0.now (ap template_end (sym c.as_bytes.ensures.value) ∙ sym c.in_ok-part.ensures.left ∙ ap (λ b. Some (b, c.in_ok-part.part.rest.now)) c.if-part.true) c.split_at.ensures.front

pub overflow_sub-end-2 : goal.overflow_sub-end-2
overflow_sub-end-2 c = omega (arith, whole_within c.args.text.now c.in_ok-part.part.rest.now (ap template_end (sym c.as_bytes.ensures.value) ∙ sym c.in_ok-part.ensures.left ∙ ap (λ b. Some (b, c.in_ok-part.part.rest.now)) c.if-part.false))

pub split_at-requires-2 : goal.split_at-requires-2
split_at-requires-2 c = whole_boundary c.args.text.now c.in_ok-part.part.rest.now c.utf8.text (ap template_end (sym c.as_bytes.ensures.value) ∙ sym c.in_ok-part.ensures.left ∙ ap (λ b. Some (b, c.in_ok-part.part.rest.now)) c.if-part.false)

pub returns : goal.returns
returns c =
    ap (λ z. Some (template_tail (normal_lines c.split_at-2.result.0.now), z)) c.split_before.ensures.back
    ∙ tail_is c.args.text.now c.in_ok-part.part.rest.now c.split_at-2.result.0.now (ap template_end (sym c.as_bytes.ensures.value) ∙ sym c.in_ok-part.ensures.left ∙ ap (λ b. Some (b, c.in_ok-part.part.rest.now)) c.if-part.false) c.split_at-2.ensures.front
