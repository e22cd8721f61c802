-- A pattern as a parameter, by its form.
use Rattle.std.proofs.Common.{◌≡◌, List, [], ◌∷◌, map, Some, refl, sym, subst}
use Rattle.js_term.specs.Term.{Text, Term, all}
use Rattle.js_term.specs.declared.kind.Kind.{Kind}
use Rattle.js_tree.specs.Parts.{kids, top}
use Rattle.js_tree.specs.TermOf.{by_form, term}
use Rattle.js_tree.specs.declared.node.Node.{Node}
use Rattle.js_tree.specs.declared.node.Form.{Form}
use Rattle.js_tree.specs.declared.node.Form.TheVariants as form
use Rattle.js_tree.proofs.TermOf.{term_is}
use Rattle.js_reading.specs.Targets.{parameter_as, parameter_rest}
use Rattle.cover_grammar.specs.Becomes.{both}
use Rattle.cover_grammar.specs.Parameters.{parameter_formed, rest_formed}

parameter_form : (f : Form) (xs : List Text) (ns : List Node) → parameter_as (Some (by_form f xs (all (map term ns)))) ≡ parameter_formed f (by_form f xs (all (map term ns))) (both ns)
parameter_form form.Absent xs ns = refl
parameter_form form.List xs ns = refl
parameter_form (form.Node Kind.AssignmentPattern) xs [] = refl
parameter_form (form.Node Kind.AssignmentPattern) xs (n ∷ []) = refl
parameter_form (form.Node Kind.AssignmentPattern) xs (n ∷ m ∷ []) = refl
parameter_form (form.Node Kind.AssignmentPattern) xs (n ∷ m ∷ l ∷ ns) = refl
parameter_form (form.Node k) xs ns = refl

pub parameter_is : (n : Node) → parameter_as (Some (term n)) ≡ parameter_formed (top n).form (term n) (both (kids n))
parameter_is n = subst (λ (t : Term). parameter_as (Some t) ≡ parameter_formed (top n).form t (both (kids n))) (sym (term_is n)) (parameter_form (top n).form (top n).texts (kids n))

rest_form : (f : Form) (xs : List Text) (ns : List Node) → parameter_rest (Some (by_form f xs (all (map term ns)))) ≡ rest_formed f (by_form f xs (all (map term ns)))
rest_form form.Absent xs ns = refl
rest_form form.List xs ns = refl
rest_form (form.Node k) xs ns = refl

pub rest_formed_is : (n : Node) → parameter_rest (Some (term n)) ≡ rest_formed (top n).form (term n)
rest_formed_is n = subst (λ (t : Term). parameter_rest (Some t) ≡ rest_formed (top n).form t) (sym (term_is n)) (rest_form (top n).form (top n).texts (kids n))
