-- The rows of imports.
use Rattle.std.proofs.Common.{◌≡◌, refl, ap, ◌∙◌, sym, ℕ, zero, suc, ◌+◌, ◌<◌, ◌≤◌, List, [], ◌∷◌, ◌++◌, length, drop, get_or, map, Bool, true, false, ◌||◌, if◌then◌else◌, arith, add-one, drop-cons}
use Rattle.std.specs.Prelude.{codes}
use Rattle.std.proofs.lemmas.List.{drop_all}
use Rattle.js_term.specs.Term.{Term, absent, list, node, Terms, more, items, all}
use Rattle.js_term.specs.Scope.{kid}
use Rattle.js_tree.specs.TermOf.{term}
use Rattle.js_tree.specs.declared.node.Node.{Node}
use Rattle.print_layout.specs.Rows.{say, part, past, comma, when, braces, named, outside, has_named, import_clause}
use Rattle.tree_printer.specs.Printed.{import, import_of, is_list, is_named}

clause_is : (t : Term) (us : Terms) → is_list t ≡ true → items t ≡ us → import_clause t ≡ import_clause (list us)
clause_is absent us h e = absurd (cc)
clause_is (list ts) us h e = ap (λ vs. import_clause (list vs)) e
clause_is (node kind texts ts) us h e = absurd (cc)

clause_is_not : (t : Term) → is_list t ≡ false → import_clause t ≡ []
clause_is_not absent h = refl
clause_is_not (list ts) h = absurd (cc)
clause_is_not (node kind texts ts) h = refl

pub import_is : (ts us : Terms) → is_list (kid 0 ts) ≡ true → items (kid 0 ts) ≡ us → import ts ≡ import_of (outside us) (has_named us)
import_is ts us h e = ap (λ ps. say (codes "import ") ∷ (ps ++ (part 1 ∷ say (codes ";") ∷ []))) (clause_is (kid 0 ts) us h e)

pub import_is_not : (ts : Terms) → is_list (kid 0 ts) ≡ false → import ts ≡ say (codes "import ") ∷ part 1 ∷ say (codes ";") ∷ []
import_is_not ts h = ap (λ ps. say (codes "import ") ∷ (ps ++ (part 1 ∷ say (codes ";") ∷ []))) (clause_is_not (kid 0 ts) h)

pub named_later : (count : ℕ) (some : Bool) → 0 < count → named count some ≡ when some (say comma ∷ braces true (past count comma 0 ∷ []))
named_later zero some h = absurd (omega arith)
named_later (suc count) some h = refl

from_here : (xs : List Node) (j : ℕ) (x : Node) → j < length xs → x ≡ get_or xs j x → all (map term (drop j xs)) ≡ more (term x) (all (map term (drop (suc j) xs)))
from_here xs j x h e = ap (λ ys. all (map term ys)) (drop-cons xs j x h) ∙ ap (λ y. more (term y) (all (map term (drop (suc j) xs)))) (sym e)

out_by : (b : Bool) (t : Term) (ts : Terms) → is_named t ≡ b → outside (more t ts) ≡ (if b then 0 else suc (outside ts))
out_by b t ts e = ap (λ c. if c then 0 else suc (outside ts)) e

pub out_here : (xs : List Node) (j total : ℕ) (x : Node) → j < length xs → x ≡ get_or xs j x → is_named (term x) ≡ true → j + outside (all (map term (drop j xs))) ≡ total → j ≡ total
out_here xs j total x h e is was =
    let none_left : outside (all (map term (drop j xs))) ≡ 0 = ap outside (from_here xs j x h e) ∙ out_by true (term x) (all (map term (drop (suc j) xs))) is in
    omega (arith, none_left, was)

pub out_later : (xs : List Node) (j total : ℕ) (x : Node) → j < length xs → x ≡ get_or xs j x → is_named (term x) ≡ false → j + outside (all (map term (drop j xs))) ≡ total → (j + 1) + outside (all (map term (drop (j + 1) xs))) ≡ total
out_later xs j total x h e is was =
    rw add-one
    (let left : outside (all (map term (drop j xs))) ≡ suc (outside (all (map term (drop (suc j) xs)))) = ap outside (from_here xs j x h e) ∙ out_by false (term x) (all (map term (drop (suc j) xs))) is in
    omega (arith, left, was))

pub out_last : (xs : List Node) (j total : ℕ) → length xs ≤ j → j ≤ length xs → j + outside (all (map term (drop j xs))) ≡ total → length xs ≡ total
out_last xs j total h k was =
    let left : outside (all (map term (drop j xs))) ≡ 0 = ap (λ ys. outside (all (map term ys))) (drop_all j xs h) in
    omega (arith, left, was)

pub named_here : (xs : List Node) (j : ℕ) (total : Bool) (x : Node) → j < length xs → x ≡ get_or xs j x → is_named (term x) ≡ true → has_named (all (map term (drop j xs))) ≡ total → true ≡ total
named_here xs j total x h e is was = sym (ap has_named (from_here xs j x h e) ∙ ap (λ b. b || has_named (all (map term (drop (suc j) xs)))) is) ∙ was

pub named_on : (xs : List Node) (j : ℕ) (total : Bool) (x : Node) → j < length xs → x ≡ get_or xs j x → is_named (term x) ≡ false → has_named (all (map term (drop j xs))) ≡ total → has_named (all (map term (drop (j + 1) xs))) ≡ total
named_on xs j total x h e is was = rw add-one (sym (ap has_named (from_here xs j x h e) ∙ ap (λ b. b || has_named (all (map term (drop (suc j) xs)))) is) ∙ was)

pub named_last : (xs : List Node) (j : ℕ) (total : Bool) → length xs ≤ j → has_named (all (map term (drop j xs))) ≡ total → false ≡ total
named_last xs j total h was = sym (ap (λ ys. has_named (all (map term ys))) (drop_all j xs h)) ∙ was
