-- What the code keeps of a list is what there is to say of it.
use Rattle.std.proofs.Common.{◌≡◌, ℕ, zero, suc, List, [], ◌∷◌, ◌++◌, length, None, Some, Bool, true, false, ◌||◌, if◌then◌else◌, refl, sym, ap, ◌∙◌, codes}
use Rattle.js_term.specs.Term.{Text}
use Rattle.js_term.specs.declared.kind.Kind.{Kind}
use Rattle.js_syntax.specs.Parts.{is_node}
use Rattle.js_tokens.specs.Next.{after}
use Rattle.js_reading.specs.Reading.{Found, Reading, ◌>>=◌, sees, items, group, trees, any_cover, any_barred}
use Rattle.js_reading.specs.Literals.{ends_with_spread}
use Rattle.js_reading.specs.Expressions.{any_spread}
use Rattle.js_reader.specs.Summed.{Summary, nothing_yet, added, with_comma, summary, summed, summed_group}

or_assoc : (p q r : Bool) → ((p || q) || r) ≡ (p || (q || r))
or_assoc true q r = refl
or_assoc false q r = refl

or_false : (p : Bool) → (p || false) ≡ p
or_false true = refl
or_false false = refl

any_behind : (p : Found → Bool) (any : List Found → Bool) → any [] ≡ false → ((f : Found) (fs : List Found) → any (f ∷ fs) ≡ (p f || any fs)) → (fs : List Found) (f : Found) → any (fs ++ f ∷ []) ≡ (any fs || p f)
any_behind p any none more [] f = more f [] ∙ ap (λ b. p f || b) none ∙ or_false (p f) ∙ sym (ap (λ b. b || p f) none)
any_behind p any none more (g ∷ fs) f = more g (fs ++ f ∷ []) ∙ ap (λ b. p g || b) (any_behind p any none more fs f) ∙ sym (or_assoc (p g) (any fs) (p f)) ∙ sym (ap (λ b. b || p f) (more g fs))

trees_behind : (fs : List Found) (f : Found) → trees (fs ++ f ∷ []) ≡ trees fs ++ f.tree ∷ []
trees_behind [] f = refl
trees_behind (g ∷ fs) f = ap (λ ts. g.tree ∷ ts) (trees_behind fs f)

ends_behind : (fs : List Found) (f : Found) → ends_with_spread (fs ++ f ∷ []) ≡ is_node Kind.SpreadElement f.tree
ends_behind [] f = refl
ends_behind (g ∷ []) f = refl
ends_behind (g ∷ h ∷ fs) f = ends_behind (h ∷ fs) f

added_is : (fs : List Found) (f : Found) → added (summary fs false) f ≡ summary (fs ++ f ∷ []) false
added_is fs f =
    let t = trees_behind fs f in
    let c = any_behind (λ g. g.cover) any_cover refl (λ g gs. refl) fs f in
    let b = any_behind (λ g. g.barred) any_barred refl (λ g gs. refl) fs f in
    let s = any_behind (λ g. is_node Kind.SpreadElement g.tree) any_spread refl (λ g gs. refl) fs f in
    let e = ends_behind fs f in
    rw (t, c, b, s, e) refl

module _ (item : Text → Reading Found) where
  summed_is : (close : Text) (n : ℕ) (fs : List Found) (a : Text) → summed item close n (summary fs false) a ≡ (items item close n fs a >>= λ p b. Some (summary p.0 p.1, b))
  unfolding summed items
  summed_is close zero fs a = refl
  summed_is close (suc n) fs a = go (λ gs b. summed_is close n gs b) (item a)
    where
      next : ((gs : List Found) (b : Text) → summed item close n (summary gs false) b ≡ (items item close n gs b >>= λ p c. Some (summary p.0 p.1, c))) → (f : Found) (b : Text) (k l : Bool) →
          (if k then (if l then Some (with_comma (added (summary fs false) f), after b) else summed item close n (added (summary fs false) f) (after b)) else Some (added (summary fs false) f, b))
          ≡ ((if k then (if l then Some ((fs ++ f ∷ [], true), after b) else items item close n (fs ++ f ∷ []) (after b)) else Some ((fs ++ f ∷ [], false), b)) >>= λ p c. Some (summary p.0 p.1, c))
      next again f b true true = ap (λ (s : Summary). Some (with_comma s, after b)) (added_is fs f)
      next again f b true false = ap (λ (s : Summary). summed item close n s (after b)) (added_is fs f) ∙ again (fs ++ f ∷ []) (after b)
      next again f b false l = ap (λ (s : Summary). Some (s, b)) (added_is fs f)

      go : ((gs : List Found) (b : Text) → summed item close n (summary gs false) b ≡ (items item close n gs b >>= λ p c. Some (summary p.0 p.1, c))) → (r : Reading Found) →
          (r >>= λ f b. if sees (codes ",") b then (if sees close (after b) then Some (with_comma (added (summary fs false) f), after b) else summed item close n (added (summary fs false) f) (after b)) else Some (added (summary fs false) f, b))
          ≡ ((r >>= λ x b. if sees (codes ",") b then (if sees close (after b) then Some ((fs ++ x ∷ [], true), after b) else items item close n (fs ++ x ∷ []) (after b)) else Some ((fs ++ x ∷ [], false), b)) >>= λ p c. Some (summary p.0 p.1, c))
      go again None = refl
      go again (Some (f, b)) = next again f b (sees (codes ",") b) (sees close (after b))

  pub group_is : (close a : Text) → summed_group item close a ≡ (group item close a >>= λ p b. Some (summary p.0 p.1, b))
  unfolding summed_group group
  group_is close a = go (sees close a)
    where
      go : (k : Bool) → (if k then Some (nothing_yet, a) else summed item close (length a) nothing_yet a) ≡ ((if k then Some (([], false), a) else items item close (length a) [] a) >>= λ p b. Some (summary p.0 p.1, b))
      go true = refl
      go false = summed_is close (length a) [] a
