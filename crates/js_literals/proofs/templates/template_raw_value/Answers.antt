use Rattle.std.proofs.Common.{[], ◌∷◌, ◌++◌, ◌∙◌, ap, sym, subst, string_bytes, arith}
use Rattle.js_literals.proofs.Lines.{Normal, line_done, lines_done}
use Rattle.js_literals.proofs.templates.template_raw_value.Goals as goal

pub loop-line-preserved : goal.loop-line-preserved
loop-line-preserved c = record {
  utf8 = c.behind_line_feed-text.utf8;
  done =
      subst (Normal c.args.characters.now (string_bytes c.push.new.self)) (sym c.behind_line_feed-text.ensures)
      (line_done c.args.characters.now (string_bytes c.loop-line.value) c.loop-line.text.now c.in-Some.line.now c.in-Some.behind.now (string_bytes c.push.new.self) c.loop-line.invariant.done c.in-Some.ensures
      (c.in_ok-push.ensures.bytes ∙ ap (λ z. string_bytes c.push_str.new.self ++ z) (c.in_ok-push.ensures.ascii (omega arith)) ∙ ap (λ z. z ++ 10 ∷ []) c.in_ok-push_str.ensures.bytes));
}

pub returns : goal.returns
returns c = lines_done c.args.characters.now (string_bytes c.loop-line.value) c.loop-line.text.now (string_bytes c.push_str-2.new.self) c.loop-line.invariant.done c.in_default.ensures c.in_ok-push_str-2.ensures.bytes
