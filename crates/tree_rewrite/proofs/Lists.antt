-- Items of lists, and lists gone through in order with a state.
use Rattle.std.proofs.Common.{◌≡◌, ℕ, zero, suc, ◌<◌, ◌≤◌, List, [], ◌∷◌, length, map, Some, None, refl, sym, ap, arith}
use Rattle.std.specs.Prelude.{slice_get, slice_set, slice_index_or}

-- ---- items

pub there : {A : Type 0} (xs : List A) (k : ℕ) → k < length xs → (x : A) × (slice_get xs k ≡ Some x)
there [] k h = absurd (omega arith)
there (x ∷ xs) zero h = (x, refl)
there (x ∷ xs) (suc k) h = there xs k (omega arith)

pub got : {A : Type 0} (xs : List A) (k : ℕ) (x : A) → k < length xs → x ≡ slice_index_or xs k x → slice_get xs k ≡ Some x
got [] k x h e = absurd (omega arith)
got (a ∷ xs) zero x h e = ap (λ y. Some y) (sym e)
got (a ∷ xs) (suc k) x h e = got xs k x (omega arith) e

pub past : {A : Type 0} (xs : List A) (k : ℕ) → length xs ≤ k → slice_get xs k ≡ None
past [] k h = refl
past (x ∷ xs) zero h = absurd (omega arith)
past (x ∷ xs) (suc k) h = past xs k (omega arith)

pub within_same : {A : Type 0} (xs ys : List A) (k : ℕ) → slice_get xs k ≡ slice_get ys k → k < length ys → k < length xs
within_same xs [] k e h = absurd (omega arith)
within_same [] (y ∷ ys) zero e h = absurd (cc)
within_same [] (y ∷ ys) (suc k) e h = let f = there ys k (omega arith) in absurd (cc (f.1))
within_same (x ∷ xs) (y ∷ ys) zero e h = omega arith
within_same (x ∷ xs) (y ∷ ys) (suc k) e h = let f : k < length xs = within_same xs ys k e (omega arith) in omega arith

pub map_set : {A B : Type 0} (h : A → B) (xs : List A) (k : ℕ) (y : A) → map h (slice_set xs k y) ≡ slice_set (map h xs) k (h y)
map_set h [] k y = refl
map_set h (x ∷ xs) zero y = refl
map_set h (x ∷ xs) (suc k) y = ap (λ l. h x ∷ l) (map_set h xs k y)

pub map_get : {A B : Type 0} (h : A → B) (xs : List A) (k : ℕ) (x : A) → slice_get xs k ≡ Some x → slice_get (map h xs) k ≡ Some (h x)
map_get h [] k x e = absurd (cc)
map_get h (a ∷ xs) zero x e = let q : a ≡ x = cc in ap (λ y. Some (h y)) q
map_get h (a ∷ xs) (suc k) x e = map_get h xs k x e

pub map_none : {A B : Type 0} (h : A → B) (xs : List A) (k : ℕ) → slice_get xs k ≡ None → slice_get (map h xs) k ≡ None
map_none h [] k e = refl
map_none h (a ∷ xs) zero e = absurd (cc)
map_none h (a ∷ xs) (suc k) e = map_none h xs k e

-- ---- items turned in order, each by its place, with a state

module _ {A S : Type 0} where
  -- the first ones alone
  abbrev pub first : (ℕ → S → A → A × S) → ℕ → S → List A → List A × S
  first f zero s xs = (xs, s)
  first f (suc k) s [] = ([], s)
  first f (suc k) s (x ∷ xs) = let r = f 0 s x in let q = first (λ j. f (suc j)) k r.1 xs in (r.0 ∷ q.0, q.1)

  abbrev pub turned : (ℕ → S → A → A × S) → S → List A → List A × S
  turned f s [] = ([], s)
  turned f s (x ∷ xs) = let r = f 0 s x in let q = turned (λ j. f (suc j)) r.1 xs in (r.0 ∷ q.0, q.1)

  pub first_step : (f : ℕ → S → A → A × S) (s : S) (xs : List A) (k : ℕ) (x : A) → slice_get (first f k s xs).0 k ≡ Some x →
      (slice_set (first f k s xs).0 k (f k (first f k s xs).1 x).0, (f k (first f k s xs).1 x).1) ≡ first f (suc k) s xs
  first_step f s [] zero x e = absurd (cc)
  first_step f s [] (suc k) x e = absurd (cc)
  first_step f s (a ∷ xs) zero x e = let q : a ≡ x = cc in ap (λ y. ((f 0 s y).0 ∷ xs, (f 0 s y).1)) (sym q)
  first_step f s (a ∷ xs) (suc k) x e = ap (λ z. ((f 0 s a).0 ∷ z.0, z.1)) (first_step (λ j. f (suc j)) (f 0 s a).1 xs k x e)

  pub first_end : (f : ℕ → S → A → A × S) (s : S) (xs : List A) (k : ℕ) → slice_get (first f k s xs).0 k ≡ None → first f k s xs ≡ turned f s xs
  first_end f s [] zero e = refl
  first_end f s [] (suc k) e = refl
  first_end f s (a ∷ xs) zero e = absurd (cc)
  first_end f s (a ∷ xs) (suc k) e = ap (λ z. ((f 0 s a).0 ∷ z.0, z.1)) (first_end (λ j. f (suc j)) (f 0 s a).1 xs k e)

-- ---- the state behind items that are seen in order, each by its place

module _ {A S : Type 0} where
  -- behind the first ones alone
  abbrev pub behind : (ℕ → S → A → S) → ℕ → S → List A → S
  behind f zero s xs = s
  behind f (suc k) s [] = s
  behind f (suc k) s (x ∷ xs) = behind (λ j. f (suc j)) k (f 0 s x) xs

  abbrev pub behind_all : (ℕ → S → A → S) → S → List A → S
  behind_all f s [] = s
  behind_all f s (x ∷ xs) = behind_all (λ j. f (suc j)) (f 0 s x) xs

  pub behind_step : (f : ℕ → S → A → S) (s : S) (xs : List A) (k : ℕ) (x : A) → slice_get xs k ≡ Some x → f k (behind f k s xs) x ≡ behind f (suc k) s xs
  behind_step f s [] k x e = absurd (cc)
  behind_step f s (a ∷ xs) zero x e = let q : a ≡ x = cc in ap (f 0 s) (sym q)
  behind_step f s (a ∷ xs) (suc k) x e = behind_step (λ j. f (suc j)) (f 0 s a) xs k x e

  pub behind_end : (f : ℕ → S → A → S) (s : S) (xs : List A) (k : ℕ) → slice_get xs k ≡ None → behind f k s xs ≡ behind_all f s xs
  behind_end f s [] zero e = refl
  behind_end f s [] (suc k) e = refl
  behind_end f s (a ∷ xs) zero e = absurd (cc)
  behind_end f s (a ∷ xs) (suc k) e = behind_end (λ j. f (suc j)) (f 0 s a) xs k e
