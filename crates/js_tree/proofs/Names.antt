-- The names of a node by those of its kids, and closures that are called on them in turn.
use denote.Ref.{Bor}
use denote.Param.Weighed.{most}
use denote.Param.Always.{always_mut, mut_next}
use denote.Param.Members.{Mut}
use Rattle.std.specs.Fn.{CalledAt}
use Rattle.std.proofs.Common.{◌≡◌, refl, sym, subst, ap, ◌∙◌, List, [], ◌∷◌, ◌++◌, None, Some, map, ℕ, zero, suc, ◌+◌, ◌<◌, ◌≤◌, arith, length, take, get_or, drop, drop-cons, add-one}
use Rattle.std.proofs.lemmas.List.{append-nil, take_more}
use Rattle.std.proofs.lemmas.Grind.{flat_map-append}
use Rattle.std.proofs.Math.Seq.{take-length}
use Rattle.std.specs.Prelude.{slice_get}
use Rattle.std.specs.List.{FoldsTo, flat_map}
use Rattle.js_tree.specs.Parts.{Level, kids, top}
use Rattle.js_tree.specs.BoundNames.{CallableAtEach, Names, names_at, binding_at, names_by, level_names, names, all_names}
use Rattle.js_tree.specs.declared.binding.Binding.{Binding}
use Rattle.js_tree.specs.declared.node.Form.{Form}
use Rattle.js_tree.specs.declared.node.Node.{Node, out-Node, roll-Node, roll-out-Node, map-Node, para-roll-Node, size-Node}

abbrev paired : Node → Node × Names
paired n = (n, names n)

firsts : (ns : List Node) → map (λ (k : Node × Names). k.0) (map paired ns) ≡ ns
firsts [] = refl
firsts (n ∷ ns) = ap (λ ms. n ∷ ms) (firsts ns)

seconds : (ns : List Node) → map (λ (k : Node × Names). k.1) (map paired ns) ≡ map names ns
seconds [] = refl
seconds (n ∷ ns) = ap (λ ms. names n ∷ ms) (seconds ns)

pub flat_names : (ns : List Node) → flat_map (λ (m : Names). m) (map names ns) ≡ all_names ns
flat_names [] = refl
flat_names (n ∷ ns) = ap (λ ms. names n ++ ms) (flat_names ns)

level_same : (l : Level) → level_names (map-Node Node (Node × Names) paired l) ≡ names_by (binding_at l.form) (roll-Node l) (map names l.kids)
level_same l =
    ap (λ ns. names_by (binding_at l.form) (roll-Node (record l { kids = ns })) (map (λ (k : Node × Names). k.1) (map paired l.kids))) (firsts l.kids)
    ∙ ap (λ ns. names_by (binding_at l.form) (roll-Node l) ns) (seconds l.kids)

names_roll : (l : Level) → names (roll-Node l) ≡ names_by (binding_at l.form) (roll-Node l) (map names l.kids)
unfolding names
names_roll l = para-roll-Node Names level_names l ∙ level_same l

pub names_is : (n : Node) → names n ≡ names_by (binding_at (top n).form) n (map names (kids n))
unfolding kids top
names_is n = ap names (sym (roll-out-Node n)) ∙ names_roll (out-Node n) ∙ ap (λ m. names_by (binding_at (out-Node n).form) m (map names (out-Node n).kids)) (roll-out-Node n)

pub names_when : (n : Node) (f : Form) (r b : Binding) → f ≡ (top n).form → r ≡ binding_at f → r ≡ b → names n ≡ names_by b n (map names (kids n))
names_when n f r b e d h = names_is n ∙ ap (λ g. names_by (binding_at g) n (map names (kids n))) (sym e) ∙ ap (λ c. names_by c n (map names (kids n))) (sym d ∙ h)

pub kid_there : (ns : List Node) (at : ℕ) (n : Node) → Some n ≡ slice_get ns at → names_at at (map names ns) ≡ names n
kid_there [] at n e = absurd (cc)
kid_there (m ∷ ns) zero n e = cc
kid_there (m ∷ ns) (suc at) n e = kid_there ns at n e

pub kid_missing : (ns : List Node) (at : ℕ) → None ≡ slice_get ns at → names_at at (map names ns) ≡ []
kid_missing [] at e = refl
kid_missing (m ∷ ns) zero e = absurd (cc)
kid_missing (m ∷ ns) (suc at) e = kid_missing ns at e

pub folds_append : {P A : Type 0} (R : P → A → P → Type 0) (xs ys : List A) (p m q : P) → FoldsTo R p xs m → FoldsTo R m ys q → FoldsTo R p (xs ++ ys) q
folds_append R [] ys p m q e h = subst (λ s. FoldsTo R s ys q) (sym e) h
folds_append R (x ∷ xs) ys p m q (j, step, more) h = (j, step, folds_append R xs ys j m q more h)

pub called_more : {P X A : Type 0} (R : P → A → P → Type 0) (f : X → List A) (xs : List X) (i : ℕ) (d : X) (p m q : P) → i < length xs → FoldsTo R p (flat_map f (take i xs)) m → FoldsTo R m (f (get_or xs i d)) q → FoldsTo R p (flat_map f (take (i + 1) xs)) q
called_more R f xs i d p m q lt before now = subst (λ ns. FoldsTo R p ns q) (sym (ap (flat_map f) (take_more xs i d lt) ∙ flat_map-append f (take i xs) (get_or xs i d ∷ []) ∙ ap (λ ns. flat_map f (take i xs) ++ ns) (append-nil (f (get_or xs i d))))) (folds_append R (flat_map f (take i xs)) (f (get_or xs i d)) p m q before now)

pub called_all : {P X A : Type 0} (R : P → A → P → Type 0) (f : X → List A) (xs : List X) (i : ℕ) (p q : P) → i ≡ length xs → FoldsTo R p (flat_map f (take i xs)) q → FoldsTo R p (flat_map f xs) q
called_all R f xs i p q e h = subst (λ ns. FoldsTo R p (flat_map f ns) q) (ap (λ n. take n xs) e ∙ take-length xs) h

module _ {F A : Type 0} (g : Mut F (Bor A × Unit {0}) (Unit {0})) where
  pub callable_front : (xs ys : List A) (f : F) → CallableAtEach g f (xs ++ ys) → CallableAtEach g f xs
  callable_front [] ys f h = tt
  callable_front (x ∷ xs) ys f h = (h.0, λ e s. callable_front xs ys e (h.1 e s))

  pub callable_rest : (xs ys : List A) (f e : F) → CallableAtEach g f (xs ++ ys) → FoldsTo (λ p n q. CalledAt g p n tt q) f xs e → CallableAtEach g e ys
  callable_rest [] ys f e h s = subst (λ p. CallableAtEach g p ys) s h
  callable_rest (x ∷ xs) ys f e h (j, step, more) = callable_rest xs ys j e (h.1 j step) more

  -- what can always be called can be called at each of these
  pub callable_always : (xs : List A) (f : F) → always_mut g f → CallableAtEach g f xs
  callable_always [] f h = tt
  callable_always (x ∷ xs) f h = (λ p e. (h.at ((p, tt) ∷ [])).0, λ e s. callable_always xs e (mut_next g f (s.shown, tt) tt e e s.called refl h))

  -- what no call is refused can be called at each of these
  pub callable_anywhere : ((f : F) (a : Bor A × Unit {0}) → g.pre f a) → (xs : List A) (f : F) → CallableAtEach g f xs
  callable_anywhere h [] f = tt
  callable_anywhere h (x ∷ xs) f = (λ p e. h f (p, tt), λ e s. callable_anywhere h xs e)

  opened : {X : Type 0} (f : X → List A) (xs : List X) (i : ℕ) (x : X) → i < length xs → x ≡ get_or xs i x → flat_map f (drop i xs) ≡ f x ++ flat_map f (drop (i + 1) xs)
  opened f xs i x lt e = ap (flat_map f) (drop-cons xs i x lt) ∙ ap (λ y. f y ++ flat_map f (drop (suc i) xs)) (sym e) ∙ ap (λ k. f x ++ flat_map f (drop k xs)) (sym (add-one i))

  pub callable_item : {X : Type 0} (f : X → List A) (xs : List X) (i : ℕ) (x : X) (p : F) → i < length xs → x ≡ get_or xs i x → CallableAtEach g p (flat_map f (drop i xs)) → CallableAtEach g p (f x)
  callable_item f xs i x p lt e h = callable_front (f x) (flat_map f (drop (i + 1) xs)) p (subst (CallableAtEach g p) (opened f xs i x lt e) h)

  pub callable_later : {X : Type 0} (f : X → List A) (xs : List X) (i : ℕ) (x : X) (p q : F) → i < length xs → x ≡ get_or xs i x → CallableAtEach g p (flat_map f (drop i xs)) → FoldsTo (λ p n q. CalledAt g p n tt q) p (f x) q → CallableAtEach g q (flat_map f (drop (i + 1) xs))
  callable_later f xs i x p q lt e h s = callable_rest (f x) (flat_map f (drop (i + 1) xs)) p q (subst (CallableAtEach g p) (opened f xs i x lt e) h) s

pub item_fits : (xs : List Node) (i : ℕ) (d x : Node) → i < length xs → x ≡ get_or xs i d → size-Node x ≤ most size-Node xs
item_fits [] i d x lt e = absurd (omega arith)
item_fits (y ∷ xs) zero d x lt e = let h = ap size-Node e in omega arith
item_fits (y ∷ xs) (suc i) d x lt e = let h : size-Node x ≤ most size-Node xs = item_fits xs i d x (omega arith) e in omega arith
