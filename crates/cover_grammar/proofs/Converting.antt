-- What a part becomes, by the step that its form answers, and what the items of a literal become, item by item.
use Rattle.std.proofs.Common.{◌≡◌, ◌<◌, ◌≤◌, ℕ, zero, suc, List, [], ◌∷◌, ◌++◌, ◌&&◌, nat_eq, map, length, drop, Option, None, Some, Bool, true, false, if◌then◌else◌, refl, sym, ap, subst, ◌∙◌, arith}
use Rattle.std.specs.Prelude.{slice_get}
use Rattle.std.proofs.lemmas.Bool.{false≢true, true≢false}
use Rattle.std.proofs.lemmas.Bool.Decides.{nat_tests}
use Rattle.js_term.specs.Term.{Text, Term, absent, list, node, Terms, none, more, all}
use Rattle.js_term.specs.declared.kind.Kind.{Kind}
use Rattle.js_syntax.specs.Edges.{is_simple_target}
use Rattle.js_syntax.specs.Sorts as sorts
use Rattle.js_tree.specs.Parts.{kids, top}
use Rattle.js_tree.specs.TermOf.{by_form, term}
use Rattle.js_tree.specs.declared.node.Node.{Node}
use Rattle.js_tree.specs.declared.node.Form.{Form}
use Rattle.js_tree.specs.declared.node.Form.TheVariants as form
use Rattle.js_tree.proofs.TermOf.{term_is}
use Rattle.js_syntax.specs.Nodes.{of_part}
use Rattle.js_reading.specs.Targets.{Items, with_item, rest_as, object_rest, target_of, target_property}
use Rattle.cover_grammar.specs.declared.targets.Becoming.{Becoming}
use Rattle.cover_grammar.specs.declared.targets.Becoming.TheVariants as becoming
use Rattle.cover_grammar.specs.declared.targets.Literal.{Literal}
use Rattle.cover_grammar.specs.declared.targets.Literal.TheVariants as literal
use Rattle.cover_grammar.specs.declared.targets.Step.{Step}
use Rattle.cover_grammar.specs.declared.targets.Step.TheVariants as step
use Rattle.cover_grammar.specs.Becomes.{sole, both}
use Rattle.cover_grammar.specs.Converted.{become, item_becomes, rest_becomes, rest_by, targets, step_of, by_step, simple_of, simple_step, target_step, element_step, property_step, default_in, pair_in, rest_in, is_spread, list_in, literal_in, is_rest, plain_count}

-- ---- by kind

default_kids : (xs : List Text) (ns : List Node) → target_of true (node Kind.AssignmentExpression xs (all (map term ns))) ≡ default_in xs (both ns)
default_kids [] [] = refl
default_kids [] (n ∷ []) = refl
default_kids [] (n ∷ m ∷ []) = refl
default_kids [] (n ∷ m ∷ l ∷ ns) = refl
default_kids (x ∷ []) [] = refl
default_kids (x ∷ []) (n ∷ []) = refl
default_kids (x ∷ []) (n ∷ m ∷ []) = refl
default_kids (x ∷ []) (n ∷ m ∷ l ∷ ns) = refl
default_kids (x ∷ y ∷ xs) [] = refl
default_kids (x ∷ y ∷ xs) (n ∷ []) = refl
default_kids (x ∷ y ∷ xs) (n ∷ m ∷ []) = refl
default_kids (x ∷ y ∷ xs) (n ∷ m ∷ l ∷ ns) = refl

pair_kids : (xs : List Text) (ns : List Node) → target_property (node Kind.ObjectProperty xs (all (map term ns))) ≡ pair_in xs (both ns)
pair_kids xs [] = refl
pair_kids xs (n ∷ []) = refl
pair_kids xs (n ∷ m ∷ []) = refl
pair_kids xs (n ∷ m ∷ l ∷ ns) = refl

object_list : (d : Bool) (xs : List Text) (n : Node) (f : Form) → (top n).form ≡ f → target_of d (node Kind.ObjectExpression xs (more (by_form f (top n).texts (all (map term (kids n)))) none)) ≡ literal_in literal.Object (list_in (Some n))
object_list true xs n form.Absent h = rw h refl
object_list true xs n form.List h = rw h refl
object_list true xs n (form.Node k) h = rw h refl
object_list false xs n form.Absent h = rw h refl
object_list false xs n form.List h = rw h refl
object_list false xs n (form.Node k) h = rw h refl

array_list : (d : Bool) (xs : List Text) (n : Node) (f : Form) → (top n).form ≡ f → target_of d (node Kind.ArrayExpression xs (more (by_form f (top n).texts (all (map term (kids n)))) none)) ≡ literal_in literal.Array (list_in (Some n))
array_list true xs n form.Absent h = rw h refl
array_list true xs n form.List h = rw h refl
array_list true xs n (form.Node k) h = rw h refl
array_list false xs n form.Absent h = rw h refl
array_list false xs n form.List h = rw h refl
array_list false xs n (form.Node k) h = rw h refl

-- a literal has no other part beside its list
object_many : (d : Bool) (xs : List Text) (t u : Term) (us : Terms) → target_of d (node Kind.ObjectExpression xs (more t (more u us))) ≡ None
object_many true xs absent u us = refl
object_many true xs (list ts) u us = refl
object_many true xs (node k ys ts) u us = refl
object_many false xs absent u us = refl
object_many false xs (list ts) u us = refl
object_many false xs (node k ys ts) u us = refl

object_kids : (d : Bool) (xs : List Text) (ns : List Node) → target_of d (node Kind.ObjectExpression xs (all (map term ns))) ≡ literal_in literal.Object (list_in (sole ns))
object_kids true xs [] = refl
object_kids false xs [] = refl
object_kids d xs (n ∷ []) = ap (λ (t : Term). target_of d (node Kind.ObjectExpression xs (more t none))) (term_is n) ∙ object_list d xs n (top n).form refl
object_kids d xs (n ∷ m ∷ ns) = object_many d xs (term n) (term m) (all (map term ns))

array_many : (d : Bool) (xs : List Text) (t u : Term) (us : Terms) → target_of d (node Kind.ArrayExpression xs (more t (more u us))) ≡ None
array_many true xs absent u us = refl
array_many true xs (list ts) u us = refl
array_many true xs (node k ys ts) u us = refl
array_many false xs absent u us = refl
array_many false xs (list ts) u us = refl
array_many false xs (node k ys ts) u us = refl

array_kids : (d : Bool) (xs : List Text) (ns : List Node) → target_of d (node Kind.ArrayExpression xs (all (map term ns))) ≡ literal_in literal.Array (list_in (sole ns))
array_kids true xs [] = refl
array_kids false xs [] = refl
array_kids d xs (n ∷ []) = ap (λ (t : Term). target_of d (node Kind.ArrayExpression xs (more t none))) (term_is n) ∙ array_list d xs n (top n).form refl
array_kids d xs (n ∷ m ∷ ns) = array_many d xs (term n) (term m) (all (map term ns))

simple_kind : (k : Kind) (xs : List Text) (ns : List Node) → simple_of (node k xs (all (map term ns))) ≡ by_step (simple_step k) (node k xs (all (map term ns))) xs ns
simple_kind k xs ns = go (node k xs (all (map term ns))) (sorts.is_simple_target k)
  where
    go : (t : Term) (b : Bool) → (if b then Some t else None) ≡ by_step (if b then step.Keep else step.Refuse) t xs ns
    go t true = refl
    go t false = refl

target_kind : (k : Kind) (xs : List Text) (ns : List Node) → target_of false (node k xs (all (map term ns))) ≡ by_step (target_step k) (node k xs (all (map term ns))) xs ns
target_kind Kind.ObjectExpression xs ns = object_kids false xs ns
target_kind Kind.ArrayExpression xs ns = array_kids false xs ns
target_kind k xs ns = refl

element_kind : (k : Kind) (xs : List Text) (ns : List Node) → target_of true (node k xs (all (map term ns))) ≡ by_step (element_step k) (node k xs (all (map term ns))) xs ns
element_kind Kind.ObjectExpression xs ns = object_kids true xs ns
element_kind Kind.ArrayExpression xs ns = array_kids true xs ns
element_kind Kind.AssignmentExpression xs ns = default_kids xs ns
element_kind k xs ns = refl

property_kind : (k : Kind) (xs : List Text) (ns : List Node) → target_property (node k xs (all (map term ns))) ≡ by_step (property_step k) (node k xs (all (map term ns))) xs ns
property_kind Kind.ObjectProperty xs ns = pair_kids xs ns
property_kind k xs ns = refl

-- ---- by form

step_form : (b : Becoming) (f : Form) (xs : List Text) (ns : List Node) → become b (by_form f xs (all (map term ns))) ≡ by_step (step_of b f) (by_form f xs (all (map term ns))) xs ns
step_form becoming.Target form.Absent xs ns = refl
step_form becoming.Element form.Absent xs ns = refl
step_form becoming.Property form.Absent xs ns = refl
step_form becoming.Simple form.Absent xs ns = refl
step_form becoming.Target form.List xs ns = refl
step_form becoming.Element form.List xs ns = refl
step_form becoming.Property form.List xs ns = refl
step_form becoming.Simple form.List xs ns = refl
step_form becoming.Target (form.Node k) xs ns = target_kind k xs ns
step_form becoming.Element (form.Node k) xs ns = element_kind k xs ns
step_form becoming.Property (form.Node k) xs ns = property_kind k xs ns
step_form becoming.Simple (form.Node k) xs ns = simple_kind k xs ns

pub step_case : (b : Becoming) (n : Node) (s : Step) → step_of b (top n).form ≡ s → become b (term n) ≡ by_step s (term n) (top n).texts (kids n)
step_case b n s h =
    subst (λ (t : Term). become b t ≡ by_step (step_of b (top n).form) t (top n).texts (kids n)) (sym (term_is n)) (step_form b (top n).form (top n).texts (kids n))
    ∙ ap (λ (r : Step). by_step r (term n) (top n).texts (kids n)) h

-- ---- items

-- items that have become something, before what the others become
abbrev pub before : List Term → Items → Items
before xs None = None
before xs (Some p) = Some (xs ++ p.0, p.1)

abbrev pub only_rest : Option Term → Items
only_rest None = None
only_rest (Some r) = Some ([], r)

pub append_assoc : (xs : List Term) (t : Term) (ys : List Term) → xs ++ (t ∷ ys) ≡ (xs ++ t ∷ []) ++ ys
append_assoc [] t ys = refl
append_assoc (x ∷ xs) t ys = ap (λ zs. x ∷ zs) (append_assoc xs t ys)

before_item : (xs : List Term) (t : Term) (r : Items) → before xs (with_item (Some t) r) ≡ before (xs ++ t ∷ []) r
before_item xs t None = refl
before_item xs t (Some p) = ap (λ zs. Some (zs, p.1)) (append_assoc xs t p.0)

pub append_nil : (xs : List Term) → xs ++ [] ≡ xs
append_nil [] = refl
append_nil (x ∷ xs) = ap (λ zs. x ∷ zs) (append_nil xs)

before_end : (xs : List Term) (r : Term) → before xs (Some ([], r)) ≡ Some (xs, r)
before_end xs r = ap (λ zs. Some (zs, r)) (append_nil xs)

-- an item that is no rest, as it stands before others or alone
more_items : (l : Literal) (t u : Term) (us : Terms) → targets l (more t (more u us)) ≡ with_item (become (item_becomes l) t) (targets l (more u us))
more_items literal.Array absent u us = refl
more_items literal.Array (list ts) u us = refl
more_items literal.Array (node Kind.SpreadElement xs none) u us = refl
more_items literal.Array (node Kind.SpreadElement xs (more a none)) u us = refl
more_items literal.Array (node Kind.SpreadElement xs (more a (more b ts))) u us = refl
more_items literal.Array (node k xs ts) u us = refl
more_items literal.Object absent u us = refl
more_items literal.Object (list ts) u us = refl
more_items literal.Object (node Kind.SpreadElement xs none) u us = refl
more_items literal.Object (node Kind.SpreadElement xs (more a none)) u us = refl
more_items literal.Object (node Kind.SpreadElement xs (more a (more b ts))) u us = refl
more_items literal.Object (node k xs ts) u us = refl

last_item : (l : Literal) (t : Term) → is_rest t ≡ false → targets l (more t none) ≡ with_item (become (item_becomes l) t) (targets l none)
last_item literal.Array absent h = refl
last_item literal.Array (list ts) h = refl
last_item literal.Array (node Kind.SpreadElement xs none) h = refl
last_item literal.Array (node Kind.SpreadElement xs (more t none)) h = absurd (true≢false h)
last_item literal.Array (node Kind.SpreadElement xs (more t (more u us))) h = refl
last_item literal.Array (node k xs ts) h = refl
last_item literal.Object absent h = refl
last_item literal.Object (list ts) h = refl
last_item literal.Object (node Kind.SpreadElement xs none) h = refl
last_item literal.Object (node Kind.SpreadElement xs (more t none)) h = absurd (true≢false h)
last_item literal.Object (node Kind.SpreadElement xs (more t (more u us))) h = refl
last_item literal.Object (node k xs ts) h = refl

-- the item numbered k, where it stands before the rest
pub plain_step : (l : Literal) (ts : List Term) (k : ℕ) (x : Term) → k < plain_count ts → slice_get ts k ≡ Some x → targets l (all (drop k ts)) ≡ with_item (become (item_becomes l) x) (targets l (all (drop (suc k) ts)))
plain_step l [] k x lt e = absurd (omega arith)
plain_step l (t ∷ []) zero x lt e = let same : t ≡ x = cc in subst (λ (y : Term). targets l (more t none) ≡ with_item (become (item_becomes l) y) (targets l none)) same (last_item l t (go (is_rest t) lt))
  where
    go : (b : Bool) → 0 < (if b then 0 else 1) → b ≡ false
    go true h = absurd (omega arith)
    go false h = refl
plain_step l (t ∷ []) (suc k) x lt e = absurd (cc)
plain_step l (t ∷ u ∷ us) zero x lt e = let same : t ≡ x = cc in subst (λ (y : Term). targets l (more t (more u (all us))) ≡ with_item (become (item_becomes l) y) (targets l (more u (all us)))) same (more_items l t u (all us))
plain_step l (t ∷ u ∷ us) (suc k) x lt e = plain_step l (u ∷ us) k x (omega arith) e

-- no rest
pub plain_end : (l : Literal) (ts : List Term) (k : ℕ) → k ≡ plain_count ts → k ≡ length ts → targets l (all (drop k ts)) ≡ Some ([], absent)
plain_end l ts k p e = ap (λ us. targets l (all us)) (go ts k e) ∙ nothing l
  where
    go : (us : List Term) (j : ℕ) → j ≡ length us → drop j us ≡ []
    go [] zero h = refl
    go [] (suc j) h = absurd (omega arith)
    go (u ∷ us) zero h = absurd (omega arith)
    go (u ∷ us) (suc j) h = go us j (omega arith)

    nothing : (m : Literal) → targets m none ≡ Some ([], absent)
    nothing literal.Array = refl
    nothing literal.Object = refl

-- the rest stands last
pub plain_rest : (ts : List Term) (k : ℕ) (x : Term) → k ≡ plain_count ts → slice_get ts k ≡ Some x → (is_rest x ≡ true) × (drop k ts ≡ x ∷ [])
plain_rest [] k x p e = absurd (cc)
plain_rest (t ∷ []) zero x p e = let same : t ≡ x = cc in (subst (λ (y : Term). is_rest y ≡ true) same (go (is_rest t) p), ap (λ (y : Term). y ∷ []) same)
  where
    go : (b : Bool) → ◌≡◌ {A = ℕ} 0 (if b then 0 else 1) → b ≡ true
    go true h = refl
    go false h = absurd (omega arith)
plain_rest (t ∷ []) (suc k) x p e = absurd (cc)
plain_rest (t ∷ u ∷ us) zero x p e = absurd (omega arith)
plain_rest (t ∷ u ∷ us) (suc k) x p e = plain_rest (u ∷ us) k x (omega arith) e

-- how many stand before the rest, by the last one
pub plain_last : (ts : List Term) (n : ℕ) (x : Term) → length ts ≡ suc n → slice_get ts n ≡ Some x → plain_count ts ≡ (if is_rest x then n else suc n)
plain_last [] n x l e = absurd (omega arith)
plain_last (t ∷ []) zero x l e = let same : t ≡ x = cc in ap (λ (y : Term). if is_rest y then 0 else 1) same
plain_last (t ∷ []) (suc n) x l e = absurd (omega arith)
plain_last (t ∷ u ∷ us) zero x l e = absurd (omega arith)
plain_last (t ∷ u ∷ us) (suc n) x l e = ap suc (plain_last (u ∷ us) n x (omega arith) e) ∙ go (is_rest x)
  where
    go : (b : Bool) → suc (if b then n else suc n) ≡ (if b then suc n else suc (suc n))
    go true = refl
    go false = refl

-- ---- the rest

not_one : (n : ℕ) → nat_eq (suc (suc n)) 1 ≡ false
not_one n = grind (arith, nat_tests)

rest_form : (f : Form) (xs : List Text) (ns : List Node) → is_rest (by_form f xs (all (map term ns))) ≡ (is_spread f && nat_eq (length ns) 1)
rest_form form.Absent xs ns = refl
rest_form form.List xs ns = refl
rest_form (form.Node Kind.SpreadElement) xs [] = refl
rest_form (form.Node Kind.SpreadElement) xs (n ∷ []) = refl
rest_form (form.Node Kind.SpreadElement) xs (n ∷ m ∷ ns) = sym (not_one (length ns))
rest_form (form.Node k) xs ns = refl

pub rest_is : (n : Node) → is_rest (term n) ≡ (is_spread (top n).form && nat_eq (length (kids n)) 1)
rest_is n = ap is_rest (term_is n) ∙ rest_form (top n).form (top n).texts (kids n)

rest_as_only : (o : Option Term) → rest_as Kind.AssignmentTargetRest o ≡ only_rest (rest_by o)
rest_as_only None = refl
rest_as_only (Some t) = refl

object_rest_only : (t : Term) → object_rest t ≡ only_rest (rest_by (simple_of t))
object_rest_only t = go (is_simple_target t)
  where
    go : (b : Bool) → (if b then Some ([], of_part Kind.AssignmentTargetRest t) else None) ≡ only_rest (rest_by (if b then Some t else None))
    go true = refl
    go false = refl

rest_kids : (l : Literal) (f : Form) (xs : List Text) (ns : List Node) → is_rest (by_form f xs (all (map term ns))) ≡ true → targets l (more (by_form f xs (all (map term ns))) none) ≡ only_rest (rest_in l (sole ns))
rest_kids l form.Absent xs ns h = absurd (false≢true h)
rest_kids l form.List xs ns h = absurd (false≢true h)
rest_kids l (form.Node Kind.SpreadElement) xs [] h = absurd (false≢true h)
rest_kids literal.Array (form.Node Kind.SpreadElement) xs (n ∷ []) h = rest_as_only (target_of false (term n))
rest_kids literal.Object (form.Node Kind.SpreadElement) xs (n ∷ []) h = object_rest_only (term n)
rest_kids l (form.Node Kind.SpreadElement) xs (n ∷ m ∷ ns) h = absurd (false≢true h)
rest_kids l (form.Node k) xs ns h = absurd (false≢true h)

pub rest_node : (l : Literal) (n : Node) → is_rest (term n) ≡ true → targets l (more (term n) none) ≡ only_rest (rest_in l (sole (kids n)))
rest_node l n h = ap (λ (t : Term). targets l (more t none)) (term_is n) ∙ rest_kids l (top n).form (top n).texts (kids n) (ap is_rest (sym (term_is n)) ∙ h)

-- ---- how the loop over the items goes on

pub use_map : (ks : List Node) (k : ℕ) (x : Node) → slice_get ks k ≡ Some x → slice_get (map term ks) k ≡ Some (term x)
use_map [] k x e = absurd (cc)
use_map (n ∷ ks) zero x e = let same : n ≡ x = cc in ap (λ (m : Node). Some (term m)) same
use_map (n ∷ ks) (suc k) x e = use_map ks k x e

pub length_map : (ks : List Node) → length (map term ks) ≡ length ks
length_map [] = refl
length_map (n ∷ ks) = ap suc (length_map ks)

pub last_counts : (n x : Node) (c : ℕ) → length (kids n) ≡ suc c → slice_get (kids n) c ≡ Some x → plain_count (map term (kids n)) ≡ (if is_rest (term x) then c else suc c)
last_counts n x c l e = plain_last (map term (kids n)) c (term x) (length_map (kids n) ∙ l) (use_map (kids n) c x e)

pub item_next : (l : Literal) (ks : List Node) (k : ℕ) (x : Node) (xs : List Term) (t : Term) (w : Items) → k < plain_count (map term ks) → slice_get ks k ≡ Some x →
    w ≡ before xs (targets l (all (drop k (map term ks)))) → become (item_becomes l) (term x) ≡ Some t → w ≡ before (xs ++ t ∷ []) (targets l (all (drop (suc k) (map term ks))))
item_next l ks k x xs t w lt e h f =
    h ∙ ap (before xs) (plain_step l (map term ks) k (term x) lt (use_map ks k x e) ∙ ap (λ (o : Option Term). with_item o (targets l (all (drop (suc k) (map term ks))))) f)
    ∙ before_item xs t (targets l (all (drop (suc k) (map term ks))))

pub none_left : (l : Literal) (ks : List Node) (k : ℕ) (xs : List Term) (w : Items) → k ≡ plain_count (map term ks) → k ≡ length ks → w ≡ before xs (targets l (all (drop k (map term ks)))) → w ≡ Some (xs, absent)
none_left l ks k xs w p e h = h ∙ ap (before xs) (plain_end l (map term ks) k p (e ∙ sym (length_map ks))) ∙ before_end xs absent

pub rest_left : (l : Literal) (ks : List Node) (k : ℕ) (x : Node) (xs : List Term) (w : Items) → k ≡ plain_count (map term ks) → slice_get ks k ≡ Some x → w ≡ before xs (targets l (all (drop k (map term ks)))) → w ≡ before xs (only_rest (rest_in l (sole (kids x))))
rest_left l ks k x xs w p e h =
    let (is, end) = plain_rest (map term ks) k (term x) p (use_map ks k x e) in
    h ∙ ap (λ us. before xs (targets l (all us))) end ∙ ap (before xs) (rest_node l x is)

pub rest_made : (l : Literal) (x a : Node) (xs : List Term) (t r : Term) → sole (kids x) ≡ Some a → become (rest_becomes l) (term a) ≡ Some t → r ≡ of_part Kind.AssignmentTargetRest t → before xs (only_rest (rest_in l (sole (kids x)))) ≡ Some (xs, r)
rest_made l x a xs t r e f m = ap (λ o. before xs (only_rest (rest_in l o))) e ∙ ap (λ o. before xs (only_rest (rest_by o))) f ∙ before_end xs (of_part Kind.AssignmentTargetRest t) ∙ ap (λ u. Some (xs, u)) (sym m)

pub step_here : (b : Becoming) (n : Node) (f : Form) (r s : Step) → f ≡ (top n).form → r ≡ step_of b f → r ≡ s → become b (term n) ≡ by_step s (term n) (top n).texts (kids n)
step_here b n f r s e h is = step_case b n s (ap (step_of b) (sym e) ∙ sym h ∙ is)

pub item_here : (l : Literal) (ks : List Node) (k : ℕ) (x : Node) (xs : List Term) (w : Items) → k < plain_count (map term ks) → slice_get ks k ≡ Some x →
    w ≡ before xs (targets l (all (drop k (map term ks)))) → w ≡ before xs (with_item (become (item_becomes l) (term x)) (targets l (all (drop (suc k) (map term ks)))))
item_here l ks k x xs w lt e h = h ∙ ap (before xs) (plain_step l (map term ks) k (term x) lt (use_map ks k x e))

pub map_more : (xs : List Node) (x : Node) → map term (xs ++ x ∷ []) ≡ map term xs ++ term x ∷ []
map_more [] x = refl
map_more (y ∷ xs) x = ap (λ zs. term y ∷ zs) (map_more xs x)

plain_within : (ts : List Term) (k : ℕ) → k < plain_count ts → k < length ts
plain_within [] k h = absurd (omega arith)
plain_within (t ∷ []) zero h = omega arith
plain_within (t ∷ []) (suc k) h = absurd (go (is_rest t) h)
  where
    go : (b : Bool) → suc k < (if b then 0 else 1) → ⊥
    go true h = omega arith
    go false h = omega arith
plain_within (t ∷ u ∷ us) zero h = omega arith
plain_within (t ∷ u ∷ us) (suc k) h = let below = plain_within (u ∷ us) k (omega arith) in omega arith

pub within_list : (n : Node) (k : ℕ) → k < plain_count (map term (kids n)) → k < length (kids n)
within_list n k h = let below = plain_within (map term (kids n)) k h in omega (arith, length_map (kids n))

-- the count of those before the rest is that of all or one less
pub plain_most : (ts : List Term) → plain_count ts ≤ length ts
plain_most [] = omega arith
plain_most (t ∷ []) = go (is_rest t)
  where
    go : (b : Bool) → (if b then 0 else 1) ≤ 1
    go true = omega arith
    go false = omega arith
plain_most (t ∷ u ∷ us) = let below = plain_most (u ∷ us) in omega arith

pub most_list : (n : Node) → plain_count (map term (kids n)) ≤ length (kids n)
most_list n = omega (arith, plain_most (map term (kids n)), length_map (kids n))

missing : {A : Type 0} (zs : List A) (j : ℕ) → j < length zs → slice_get zs j ≡ None → ⊥
missing [] j h e = omega arith
missing (z ∷ zs) zero h e = cc
missing (z ∷ zs) (suc j) h e = missing zs j (omega arith) e

pub same_there : {A : Type 0} (xs ys : List A) (k : ℕ) → slice_get xs k ≡ slice_get ys k → k < length ys → k < length xs
same_there [] ys k e h = absurd (missing ys k h (sym e))
same_there (x ∷ xs) [] k e h = absurd (omega arith)
same_there (x ∷ xs) (y ∷ ys) zero e h = omega arith
same_there (x ∷ xs) (y ∷ ys) (suc k) e h = let below = same_there xs ys k e (omega arith) in omega arith

pub drop_there : (ts : List Term) (k : ℕ) (x : Term) → slice_get ts k ≡ Some x → drop k ts ≡ x ∷ drop (suc k) ts
drop_there [] k x e = absurd (cc)
drop_there (t ∷ ts) zero x e = let same : t ≡ x = cc in ap (λ (y : Term). y ∷ ts) same
drop_there (t ∷ ts) (suc k) x e = drop_there ts k x e

pub drop_end : (ts : List Term) (k : ℕ) → k ≡ length ts → drop k ts ≡ []
drop_end [] zero h = refl
drop_end [] (suc j) h = absurd (omega arith)
drop_end (u ∷ us) zero h = absurd (omega arith)
drop_end (u ∷ us) (suc j) h = drop_end us j (omega arith)
