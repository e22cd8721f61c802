-- What a part of a target becomes, by the turn that its form answers, and what the items become, one by one.
use Rattle.std.proofs.Common.{◌≡◌, ℕ, suc, List, [], ◌∷◌, ◌++◌, nat_eq, map, length, drop, Option, None, Some, Bool, true, false, if◌then◌else◌, refl, sym, ap, subst, ◌∙◌, arith}
use Rattle.std.specs.Prelude.{slice_get}
use Rattle.std.proofs.lemmas.Bool.Decides.{nat_tests}
use Rattle.js_term.specs.Term.{Text, Term, absent, list, node, Terms, none, more, all}
use Rattle.js_term.specs.declared.kind.Kind.{Kind}
use Rattle.js_tree.specs.Parts.{kids, top}
use Rattle.js_tree.specs.TermOf.{by_form, term}
use Rattle.js_tree.specs.declared.node.Node.{Node}
use Rattle.js_tree.specs.declared.node.Form.{Form}
use Rattle.js_tree.specs.declared.node.Form.TheVariants as form
use Rattle.js_tree.proofs.TermOf.{term_is}
use Rattle.js_reading.specs.Targets.{with_first, with_rest, pattern_as, bound_name, bound_object_rest, pattern_of, pattern_rest, pattern_elements, pattern_properties, pattern_property}
use Rattle.cover_grammar.specs.declared.patterns.Binding.{Binding}
use Rattle.cover_grammar.specs.declared.patterns.Binding.TheVariants as binding
use Rattle.cover_grammar.specs.declared.patterns.Items.TheVariants as items
use Rattle.cover_grammar.specs.declared.patterns.Turn.{Turn}
use Rattle.cover_grammar.specs.Becomes.{sole, both}
use Rattle.cover_grammar.specs.Bound.{bind, each_as, name_turn, pattern_turn, element_turn, property_turn, rest_turn, turn_of, by_turn, name_in, default_bound, pair_bound, rest_bound, listed_both, pattern_in}
use Rattle.cover_grammar.proofs.Converting.{append_nil, append_assoc, use_map, length_map, drop_there, drop_end}

not_none : (n : ℕ) → nat_eq (suc n) 0 ≡ false
not_none n = grind (arith, nat_tests)

not_single : (n : ℕ) (t : Term) → None ≡ (if nat_eq (suc n) 0 then Some t else None)
not_single n t = sym (ap (λ b. if b then Some t else None) (not_none n))

-- ---- by kind

name_kids : (xs : List Text) (ns : List Node) → bound_name (node Kind.Identifier xs (all (map term ns))) ≡ name_in xs ns
name_kids [] ns = refl
name_kids (x ∷ []) [] = refl
name_kids (x ∷ []) (n ∷ ns) = not_single (length ns) (node Kind.BindingIdentifier (x ∷ []) none)
name_kids (x ∷ y ∷ xs) ns = refl

pattern_name : (d : Bool) (xs : List Text) (ns : List Node) → pattern_of d (node Kind.Identifier xs (all (map term ns))) ≡ name_in xs ns
pattern_name true [] ns = refl
pattern_name false [] ns = refl
pattern_name true (x ∷ []) [] = refl
pattern_name false (x ∷ []) [] = refl
pattern_name true (x ∷ []) (n ∷ ns) = not_single (length ns) (node Kind.BindingIdentifier (x ∷ []) none)
pattern_name false (x ∷ []) (n ∷ ns) = not_single (length ns) (node Kind.BindingIdentifier (x ∷ []) none)
pattern_name true (x ∷ y ∷ xs) ns = refl
pattern_name false (x ∷ y ∷ xs) ns = refl

default_kids : (xs : List Text) (ns : List Node) → pattern_of true (node Kind.AssignmentTargetWithDefault xs (all (map term ns))) ≡ default_bound (both ns)
default_kids xs [] = refl
default_kids xs (n ∷ []) = refl
default_kids xs (n ∷ m ∷ []) = refl
default_kids xs (n ∷ m ∷ l ∷ ns) = refl

pair_kids : (xs : List Text) (ns : List Node) → pattern_property (node Kind.AssignmentTargetProperty xs (all (map term ns))) ≡ pair_bound xs (both ns)
pair_kids xs [] = refl
pair_kids xs (n ∷ []) = refl
pair_kids xs (n ∷ m ∷ []) = refl
pair_kids xs (n ∷ m ∷ l ∷ ns) = refl

array_rest_kids : (xs : List Text) (ns : List Node) → pattern_rest (node Kind.AssignmentTargetRest xs (all (map term ns))) ≡ rest_bound binding.Pattern (sole ns)
array_rest_kids xs [] = refl
array_rest_kids xs (n ∷ []) = refl
array_rest_kids xs (n ∷ m ∷ ns) = refl

object_rest_kids : (xs : List Text) (ns : List Node) → bound_object_rest (node Kind.AssignmentTargetRest xs (all (map term ns))) ≡ rest_bound binding.Name (sole ns)
object_rest_kids xs [] = refl
object_rest_kids xs (n ∷ []) = refl
object_rest_kids xs (n ∷ m ∷ ns) = refl

-- ---- lists

elements_each : (ts : List Term) → pattern_elements (all ts) ≡ each_as (λ t. pattern_of true t) ts
elements_each [] = refl
elements_each (t ∷ ts) = ap (with_first (pattern_of true t)) (elements_each ts)

properties_each : (ts : List Term) → pattern_properties (all ts) ≡ each_as (λ t. pattern_property t) ts
properties_each [] = refl
properties_each (t ∷ ts) = ap (with_first (pattern_property t)) (properties_each ts)

object_many : (d : Bool) (xs : List Text) (t u v : Term) (us : Terms) → pattern_of d (node Kind.ObjectAssignmentTarget xs (more t (more u (more v us)))) ≡ None
object_many true xs absent u v us = refl
object_many true xs (list ts) u v us = refl
object_many true xs (node k ys ts) u v us = refl
object_many false xs absent u v us = refl
object_many false xs (list ts) u v us = refl
object_many false xs (node k ys ts) u v us = refl

object_one : (d : Bool) (xs : List Text) (t : Term) → pattern_of d (node Kind.ObjectAssignmentTarget xs (more t none)) ≡ None
object_one true xs absent = refl
object_one true xs (list ts) = refl
object_one true xs (node k ys ts) = refl
object_one false xs absent = refl
object_one false xs (list ts) = refl
object_one false xs (node k ys ts) = refl

object_list : (d : Bool) (xs : List Text) (n m : Node) (f : Form) → (top n).form ≡ f → pattern_of d (node Kind.ObjectAssignmentTarget xs (more (by_form f (top n).texts (all (map term (kids n)))) (more (term m) none))) ≡ pattern_in items.Properties (listed_both (Some (n, m)))
object_list true xs n m form.Absent h = rw h refl
object_list true xs n m form.List h = rw h (ap (λ us. pattern_as Kind.ObjectPattern (with_rest us (bound_object_rest (term m)))) (properties_each (map term (kids n))))
object_list true xs n m (form.Node k) h = rw h refl
object_list false xs n m form.Absent h = rw h refl
object_list false xs n m form.List h = rw h (ap (λ us. pattern_as Kind.ObjectPattern (with_rest us (bound_object_rest (term m)))) (properties_each (map term (kids n))))
object_list false xs n m (form.Node k) h = rw h refl

object_kids : (d : Bool) (xs : List Text) (ns : List Node) → pattern_of d (node Kind.ObjectAssignmentTarget xs (all (map term ns))) ≡ pattern_in items.Properties (listed_both (both ns))
object_kids true xs [] = refl
object_kids false xs [] = refl
object_kids d xs (n ∷ []) = object_one d xs (term n)
object_kids d xs (n ∷ m ∷ []) = ap (λ (t : Term). pattern_of d (node Kind.ObjectAssignmentTarget xs (more t (more (term m) none)))) (term_is n) ∙ object_list d xs n m (top n).form refl
object_kids d xs (n ∷ m ∷ l ∷ ns) = object_many d xs (term n) (term m) (term l) (all (map term ns))

array_many : (d : Bool) (xs : List Text) (t u v : Term) (us : Terms) → pattern_of d (node Kind.ArrayAssignmentTarget xs (more t (more u (more v us)))) ≡ None
array_many true xs absent u v us = refl
array_many true xs (list ts) u v us = refl
array_many true xs (node k ys ts) u v us = refl
array_many false xs absent u v us = refl
array_many false xs (list ts) u v us = refl
array_many false xs (node k ys ts) u v us = refl

array_one : (d : Bool) (xs : List Text) (t : Term) → pattern_of d (node Kind.ArrayAssignmentTarget xs (more t none)) ≡ None
array_one true xs absent = refl
array_one true xs (list ts) = refl
array_one true xs (node k ys ts) = refl
array_one false xs absent = refl
array_one false xs (list ts) = refl
array_one false xs (node k ys ts) = refl

array_list : (d : Bool) (xs : List Text) (n m : Node) (f : Form) → (top n).form ≡ f → pattern_of d (node Kind.ArrayAssignmentTarget xs (more (by_form f (top n).texts (all (map term (kids n)))) (more (term m) none))) ≡ pattern_in items.Elements (listed_both (Some (n, m)))
array_list true xs n m form.Absent h = rw h refl
array_list true xs n m form.List h = rw h (ap (λ us. pattern_as Kind.ArrayPattern (with_rest us (pattern_rest (term m)))) (elements_each (map term (kids n))))
array_list true xs n m (form.Node k) h = rw h refl
array_list false xs n m form.Absent h = rw h refl
array_list false xs n m form.List h = rw h (ap (λ us. pattern_as Kind.ArrayPattern (with_rest us (pattern_rest (term m)))) (elements_each (map term (kids n))))
array_list false xs n m (form.Node k) h = rw h refl

array_kids : (d : Bool) (xs : List Text) (ns : List Node) → pattern_of d (node Kind.ArrayAssignmentTarget xs (all (map term ns))) ≡ pattern_in items.Elements (listed_both (both ns))
array_kids true xs [] = refl
array_kids false xs [] = refl
array_kids d xs (n ∷ []) = array_one d xs (term n)
array_kids d xs (n ∷ m ∷ []) = ap (λ (t : Term). pattern_of d (node Kind.ArrayAssignmentTarget xs (more t (more (term m) none)))) (term_is n) ∙ array_list d xs n m (top n).form refl
array_kids d xs (n ∷ m ∷ l ∷ ns) = array_many d xs (term n) (term m) (term l) (all (map term ns))

-- ---- by form

name_kind : (k : Kind) (xs : List Text) (ns : List Node) → bound_name (node k xs (all (map term ns))) ≡ by_turn (name_turn k) (node k xs (all (map term ns))) xs ns
name_kind Kind.Identifier xs ns = name_kids xs ns
name_kind k xs ns = refl

pattern_kind : (k : Kind) (xs : List Text) (ns : List Node) → pattern_of false (node k xs (all (map term ns))) ≡ by_turn (pattern_turn k) (node k xs (all (map term ns))) xs ns
pattern_kind Kind.Identifier xs ns = pattern_name false xs ns
pattern_kind Kind.ObjectAssignmentTarget xs ns = object_kids false xs ns
pattern_kind Kind.ArrayAssignmentTarget xs ns = array_kids false xs ns
pattern_kind k xs ns = refl

element_kind : (k : Kind) (xs : List Text) (ns : List Node) → pattern_of true (node k xs (all (map term ns))) ≡ by_turn (element_turn k) (node k xs (all (map term ns))) xs ns
element_kind Kind.Identifier xs ns = pattern_name true xs ns
element_kind Kind.ObjectAssignmentTarget xs ns = object_kids true xs ns
element_kind Kind.ArrayAssignmentTarget xs ns = array_kids true xs ns
element_kind Kind.AssignmentTargetWithDefault xs ns = default_kids xs ns
element_kind k xs ns = refl

property_kind : (k : Kind) (xs : List Text) (ns : List Node) → pattern_property (node k xs (all (map term ns))) ≡ by_turn (property_turn k) (node k xs (all (map term ns))) xs ns
property_kind Kind.AssignmentTargetProperty xs ns = pair_kids xs ns
property_kind k xs ns = refl

array_rest_kind : (k : Kind) (xs : List Text) (ns : List Node) → pattern_rest (node k xs (all (map term ns))) ≡ by_turn (rest_turn binding.Pattern k) (node k xs (all (map term ns))) xs ns
array_rest_kind Kind.AssignmentTargetRest xs ns = array_rest_kids xs ns
array_rest_kind k xs ns = refl

object_rest_kind : (k : Kind) (xs : List Text) (ns : List Node) → bound_object_rest (node k xs (all (map term ns))) ≡ by_turn (rest_turn binding.Name k) (node k xs (all (map term ns))) xs ns
object_rest_kind Kind.AssignmentTargetRest xs ns = object_rest_kids xs ns
object_rest_kind k xs ns = refl

turn_form : (b : Binding) (f : Form) (xs : List Text) (ns : List Node) → bind b (by_form f xs (all (map term ns))) ≡ by_turn (turn_of b f) (by_form f xs (all (map term ns))) xs ns
turn_form binding.Pattern form.Absent xs ns = refl
turn_form binding.Element form.Absent xs ns = refl
turn_form binding.Property form.Absent xs ns = refl
turn_form binding.ArrayRest form.Absent xs ns = refl
turn_form binding.ObjectRest form.Absent xs ns = refl
turn_form binding.Name form.Absent xs ns = refl
turn_form binding.Pattern form.List xs ns = refl
turn_form binding.Element form.List xs ns = refl
turn_form binding.Property form.List xs ns = refl
turn_form binding.ArrayRest form.List xs ns = refl
turn_form binding.ObjectRest form.List xs ns = refl
turn_form binding.Name form.List xs ns = refl
turn_form binding.Pattern (form.Node k) xs ns = pattern_kind k xs ns
turn_form binding.Element (form.Node k) xs ns = element_kind k xs ns
turn_form binding.Property (form.Node k) xs ns = property_kind k xs ns
turn_form binding.ArrayRest (form.Node k) xs ns = array_rest_kind k xs ns
turn_form binding.ObjectRest (form.Node k) xs ns = object_rest_kind k xs ns
turn_form binding.Name (form.Node k) xs ns = name_kind k xs ns

turn_case : (b : Binding) (n : Node) (s : Turn) → turn_of b (top n).form ≡ s → bind b (term n) ≡ by_turn s (term n) (top n).texts (kids n)
turn_case b n s h =
    subst (λ (t : Term). bind b t ≡ by_turn (turn_of b (top n).form) t (top n).texts (kids n)) (sym (term_is n)) (turn_form b (top n).form (top n).texts (kids n))
    ∙ ap (λ (r : Turn). by_turn r (term n) (top n).texts (kids n)) h

pub turn_here : (b : Binding) (n : Node) (f : Form) (r s : Turn) → f ≡ (top n).form → r ≡ turn_of b f → r ≡ s → bind b (term n) ≡ by_turn s (term n) (top n).texts (kids n)
turn_here b n f r s e h is = turn_case b n s (ap (turn_of b) (sym e) ∙ sym h ∙ is)

-- ---- how the loop over the items goes on

-- items that have become something, before what the others become
abbrev pub put_before : List Term → Option (List Term) → Option (List Term)
put_before xs None = None
put_before xs (Some ys) = Some (xs ++ ys)

put_first : (xs : List Term) (t : Term) (r : Option (List Term)) → put_before xs (with_first (Some t) r) ≡ put_before (xs ++ t ∷ []) r
put_first xs t None = refl
put_first xs t (Some ys) = ap (λ zs. Some zs) (append_assoc xs t ys)

pub each_here : (f : Term → Option Term) (ks : List Node) (k : ℕ) (x : Node) (xs : List Term) (w : Option (List Term)) → slice_get ks k ≡ Some x →
    w ≡ put_before xs (each_as f (drop k (map term ks))) → w ≡ put_before xs (with_first (f (term x)) (each_as f (drop (suc k) (map term ks))))
each_here f ks k x xs w e h = h ∙ ap (λ us. put_before xs (each_as f us)) (drop_there (map term ks) k (term x) (use_map ks k x e))

pub each_next : (f : Term → Option Term) (ks : List Node) (k : ℕ) (x : Node) (xs : List Term) (t : Term) (w : Option (List Term)) → slice_get ks k ≡ Some x →
    w ≡ put_before xs (each_as f (drop k (map term ks))) → f (term x) ≡ Some t → w ≡ put_before (xs ++ t ∷ []) (each_as f (drop (suc k) (map term ks)))
each_next f ks k x xs t w e h g =
    each_here f ks k x xs w e h ∙ ap (λ (o : Option Term). put_before xs (with_first o (each_as f (drop (suc k) (map term ks))))) g ∙ put_first xs t (each_as f (drop (suc k) (map term ks)))

pub each_end : (f : Term → Option Term) (ks : List Node) (k : ℕ) (xs : List Term) (w : Option (List Term)) → k ≡ length ks → w ≡ put_before xs (each_as f (drop k (map term ks))) → w ≡ Some xs
each_end f ks k xs w e h = h ∙ ap (λ us. put_before xs (each_as f us)) (drop_end (map term ks) k (e ∙ sym (length_map ks))) ∙ ap (λ zs. Some zs) (append_nil xs)
