use Rattle.std.proofs.Common.{ℕ, length, ap, sym, ◌∙◌, arith, length-append}
use Rattle.std.proofs.lemmas.Str.{IsUtf8-past_char}
use Rattle.std.specs.Result.{result_ok}
use Rattle.std.specs.Str.Iter.{char_indices_rest}
use Rattle.js_pattern.proofs.Turn.{turns, ends, one_more, ok_of}
use Rattle.js_pattern.proofs.pattern.scan.Goals as goal

pub returns-in_default-step-clause-scan : goal.returns-in_default-step-clause-scan
returns-in_default-step-clause-scan c =
    let turn = turns c.args.mode c.loop-at.scanner c.in-Some.c (char_indices_rest c.loop-at.rest) (char_indices_rest c.next.new.self) _ c.loop-at.invariant.utf8 c.in-Some.ensures.steps.1 (sym c.step.ensures.step ∙ c.in_default-step.is) in
    sym turn ∙ c.loop-at.invariant.same

pub loop-at-preserved : goal.loop-at-preserved
loop-at-preserved c =
    let text_is = c.in-Some.ensures.steps.1 in
    let behind = c.in-Some.ensures.steps.2 in
    let long = ap length text_is in
    let more = one_more c.in-Some.c in
    let turn = turns c.args.mode c.loop-at.scanner c.in-Some.c (char_indices_rest c.loop-at.rest) (char_indices_rest c.next.new.self) _ c.loop-at.invariant.utf8 text_is (sym c.step.ensures.step ∙ c.in-Some-step.is) in
    record {
      can = omega (arith, length-append {A = ℕ});
      ends = tt;
      utf8 = IsUtf8-past_char _ _ c.in-Some.c c.loop-at.invariant.utf8 text_is;
      place = omega (arith, length-append {A = ℕ});
      groups = omega (arith, c.in-Some-step.ensures.slow.0);
      classes = omega (arith, c.in-Some-step.ensures.slow.1);
      same = sym turn ∙ c.loop-at.invariant.same;
    }

pub returns-clause-scan : goal.returns-clause-scan
returns-clause-scan c =
    ap result_ok c.ok_or.ensures.value ∙ ok_of c.finish.result _ ∙ c.finish.ensures
    ∙ sym (ends c.args.mode c.loop-at.scanner (char_indices_rest c.loop-at.rest) c.in_default.ensures.steps.0) ∙ c.loop-at.invariant.same
