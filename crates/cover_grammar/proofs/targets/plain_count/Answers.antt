use Rattle.std.proofs.Common.{◌≡◌, suc, true, false, sym, ap, ◌∙◌, arith, if◌then◌else◌, Bool, ◌-◌}
use Rattle.js_tree.specs.TermOf.{term}
use Rattle.cover_grammar.specs.Converted.{is_rest}
use Rattle.cover_grammar.proofs.Converting.{last_counts}
use Rattle.cover_grammar.proofs.targets.plain_count.Goals as goal

pub returns-then-is_rest : goal.returns-then-is_rest
returns-then-is_rest c =
    let is : is_rest (term c.in-Some.last.now) ≡ true = sym c.is_rest.ensures ∙ c.if-is_rest.true in
    let n = c.kid_count-count.result - 1 in
    let counted = last_counts c.args.list.now c.in-Some.last.now n (omega arith) (sym c.in-Some.ensures) in
    sym (counted ∙ ap (λ (b : Bool). if b then n else suc n) is)

pub returns-else-is_rest : goal.returns-else-is_rest
returns-else-is_rest c =
    let is : is_rest (term c.in-Some.last.now) ≡ false = sym c.is_rest.ensures ∙ c.if-is_rest.false in
    let n = c.kid_count-count.result - 1 in
    let counted = last_counts c.args.list.now c.in-Some.last.now n (omega arith) (sym c.in-Some.ensures) in
    let whole : suc n ≡ c.kid_count-count.result = omega arith in
    sym (counted ∙ ap (λ (b : Bool). if b then n else suc n) is ∙ whole)
