-- An expression that is read, and what goes on with it.
use Rattle.std.proofs.Common.{◌≡◌, ◌≤◌, ◌<◌, ℕ, zero, suc, Bool, true, false, not, ◌&&◌, ◌||◌, nat_le, [], ◌∷◌, length, Option, Some, refl, sym, subst, ◌⊎◌, inl, inr, ◌∙◌, arith, codes}
use Rattle.std.proofs.lemmas.Bool.{false≢true, leb-true, le-leb, cases_lt}
use Rattle.js_term.specs.Term.{Text, is_text, Term, node, none}
use Rattle.js_term.specs.declared.kind.Kind.{Kind}
use Rattle.js_syntax.specs.Tokens.{Lexeme, sign}
use Rattle.js_syntax.specs.Edges.{Edge, full, edge, is_update, is_coalesce_left}
use Rattle.js_tokens.specs.Next.{lexeme}
use Rattle.js_reading.specs.declared.goal.Goal.TheVariants as goal
use Rattle.js_reading.specs.Reading.{Found, closed, sees, same_line}
use Rattle.js_reading.specs.Operators.{sign_binds, binds, sign_gives, gives, sign_needs, needs, suits, goes_on_by, goes_on}
use Rattle.js_reading.specs.Parts.{part}
use Rattle.js_reading.specs.Expressions.{prefix, extended, climb, at_level}
use Rattle.js_reading.specs.Read.{read}
use Rattle.js_reading.proofs.TokensThere.{Seen}
use Rattle.js_reading.proofs.Lists.{sees_sign}
use Rattle.js_reading.proofs.Follows.{tightness, tightness_by, takes_name, sign_takes, broken, holds, Ends, is_full, is_updated, is_loose, stops, wider, sign_tight, tight_holds}

-- A tree, its level, and whether it is barred.
abbrev pub whole : Term → ℕ → Bool → Found
whole t n barred = record { tree = t; level = n; cover = false; barred = barred }

abbrev pub is_async : Term → Bool
is_async (node Kind.Identifier (x ∷ []) none) = is_text x (codes "async")
is_async t = false

-- The name `async` is read before what may be its arguments by a rule of its own.
unfoldable pub quiet : Term → Text → Bool
quiet t b = not (is_async t && (same_line b && sees (codes "(") b))

-- Reading from a comes to where this is found and the text b is left.
pub record Reach (i : Bool) (limit least : ℕ) (f : Found) (a b : Text) : Type 0 where
  pub turns : ℕ
  pub enough : length b ≤ turns
  pub same : at_level (read limit) i least a ≡ climb (read limit) i least turns f b

-- An expression, or what may become one, is read where parts of the depth d may be.
pub record IsRead (i : Bool) (d : ℕ) (f : Found) (a b : Text) : Type 0 where
  pub shorter : length b < length a
  pub high : 1 < f.level
  pub deep : 0 < d
  pub ends : Ends f.level (edge f.tree)
  -- what binds no tighter may follow, and leaves it as it is
  pub keeps : ℕ
  pub some : 1 ≤ keeps
  pub wide : 3 < f.level → f.level ≤ suc keeps
  pub tight : (n : ℕ) → n ≤ 14 → 3 < f.level → n ≤ f.level → n ≤ keeps
  pub calls : 19 ≤ f.level → 19 ≤ keeps
  pub reach : (limit least : ℕ) → least ≤ f.level → d ≤ suc limit → holds i (edge f.tree) keeps b ≡ true → (least ≤ 2 → quiet f.tree b ≡ true) → Reach i limit least f a b

pub climb_stops : (i : Bool) (limit n least : ℕ) (f : Found) (b : Text) → goes_on i least f b ≡ false → climb (read limit) i least n f b ≡ Some (f, b)
unfolding climb
climb_stops i limit zero least f b h = refl
climb_stops i limit (suc n) least f b h = rw h

-- it is read, and nothing more
pub found_read : {i : Bool} {d : ℕ} {f : Found} {a b : Text} (r : IsRead i d f a b) → (limit least : ℕ) → least ≤ f.level → d ≤ limit → holds i (edge f.tree) r.keeps b ≡ true → (least ≤ 2 → quiet f.tree b ≡ true) → goes_on i least f b ≡ false → read limit (goal.Expression least i) a ≡ Some (f, b)
unfolding read
found_read r zero least h fits k q stop = absurd (let s = r.deep in omega arith)
found_read {i} {d} {f} {a} {b} r (suc limit) least h fits k q stop = let x = r.reach limit least h fits k q in x.same ∙ climb_stops i limit x.turns least f b stop

async_full : (t : Term) → is_async t ≡ true → edge t ≡ full
async_full (node Kind.Identifier (x ∷ []) none) h = refl
async_full t h = absurd (false≢true h)

pub paren_tight : (i : Bool) (b : Text) → sees (codes "(") b ≡ true → tightness i b ≡ 19
unfolding tightness
paren_tight i b h = let is = sees_sign (codes "(") b h in rw (sign_takes (codes "(") b is refl, is) refl

pub full_low : (i : Bool) (k : ℕ) (b : Text) → holds i full k b ≡ true → tightness i b ≤ k
unfolding holds
full_low i k b h = leb-true (tightness i b) k h

quiet_cases : (p q r : Bool) → (p ≡ true → r ≡ true → ⊥) → not (p && (q && r)) ≡ true
quiet_cases true true true h = absurd (h refl refl)
quiet_cases true true false h = refl
quiet_cases true false r h = refl
quiet_cases false q r h = refl

-- what may follow a part in a place is no argument
pub quiet_holds : (i : Bool) (t : Term) (k : ℕ) (b : Text) → holds i (edge t) k b ≡ true → k ≤ 18 → quiet t b ≡ true
unfolding quiet
quiet_holds i t k b h low = quiet_cases (is_async t) (same_line b) (sees (codes "(") b)
    (λ e s. let below = full_low i k b (subst (λ x. holds i x k b ≡ true) (async_full t e) h) in let at = paren_tight i b s in omega arith)

pub quiet_other : (t : Term) (b : Text) → sees (codes "(") b ≡ false → quiet t b ≡ true
unfolding quiet
quiet_other t b h = quiet_cases (is_async t) (same_line b) (sees (codes "(") b) (λ e s. false≢true (sym h ∙ s))

pub quiet_broken : (t : Term) (b : Text) → same_line b ≡ false → quiet t b ≡ true
unfolding quiet
quiet_broken t b h = quiet_line (is_async t) (same_line b) (sees (codes "(") b) h
  where
    quiet_line : (p q r : Bool) → q ≡ false → not (p && (q && r)) ≡ true
    quiet_line true true r h = absurd (false≢true (sym h))
    quiet_line true false r h = refl
    quiet_line false q r h = refl

pub quiet_not_async : (t : Term) (b : Text) → is_async t ≡ false → quiet t b ≡ true
unfolding quiet
quiet_not_async t b h = quiet_cases (is_async t) (same_line b) (sees (codes "(") b) (λ e s. false≢true (sym h ∙ e))

-- in a place of this level, before what binds less tightly
pub place_found : {i : Bool} {d : ℕ} {f : Found} {a b : Text} (r : IsRead i d f a b) → (limit least k : ℕ) → least ≤ f.level → k < least → k ≤ 18 → k ≤ 1 ⊎ 3 < least → d ≤ limit → holds i (edge f.tree) k b ≡ true → read limit (goal.Expression least i) a ≡ Some (f, b)
place_found {i} {d} {f} {a} {b} r limit least k h below low c fits e =
    found_read r limit least h fits (wider i (edge f.tree) k r.keeps b (kept c) e) (λ _. quiet_holds i f.tree k b e low) (stops i least k f (edge f.tree) b r.ends e below low)
  where
    kept : k ≤ 1 ⊎ 3 < least → k ≤ r.keeps
    kept (inl h') = let s = r.some in omega arith
    kept (inr h') = let w = r.wide (omega arith) in omega arith

pub place_read : {i : Bool} {d n : ℕ} {e : Term} {barred : Bool} {a b : Text} (r : IsRead i d (whole e n barred) a b) → (limit least k : ℕ) → least ≤ n → k < least → k ≤ 18 → 3 < least → d ≤ limit → holds i (edge e) k b ≡ true → part (read limit) (goal.Expression least i) a ≡ Some (e, b)
unfolding part
place_read r limit least k h below low c fits e = rw (place_found r limit least k h below low (inr c) fits e)

-- where any expression of level 2 may stand
pub right_read : {i : Bool} {d n : ℕ} {e : Term} {barred : Bool} {a b : Text} (r : IsRead i d (whole e n barred) a b) → (limit : ℕ) → d ≤ limit → holds i (edge e) 1 b ≡ true → part (read limit) (goal.Expression 2 i) a ≡ Some (e, b)
unfolding part
right_read r limit fits e = let h = r.high in rw (place_found r limit 2 1 (omega arith) (omega arith) (omega arith) (inl (omega arith)) fits e)

-- ---- what goes on with it

and_four : (p q r s : Bool) → p ≡ true → q ≡ true → r ≡ true → s ≡ true → (p && q && r && s) ≡ true
and_four p q r s h h' h'' h''' = rw (h, h', h'', h''') refl

goes : (i : Bool) (least n : ℕ) (o : Option Lexeme) (line : Bool) → 1 < binds i o → least ≤ gives i n o → needs i o ≤ n → suits n o line ≡ true → goes_on_by i least n o line ≡ true
goes i least n o line some low high suit = and_four (nat_le 2 (binds i o)) (nat_le least (gives i n o)) (nat_le (needs i o) n) (suits n o line) (le-leb 2 (binds i o) some) (le-leb least (gives i n o) low) (le-leb (needs i o) n high) suit

turn : (i : Bool) (limit n least : ℕ) (f f' : Found) (b b' : Text) → goes_on i least f b ≡ true → extended (read limit) i f b ≡ Some (f', b') → climb (read limit) i least (suc n) f b ≡ climb (read limit) i least n f' b'
unfolding climb
turn i limit n least f f' b b' g x = rw (g, x)

going : (i : Bool) (least : ℕ) (f : Found) (b : Text) → goes_on_by i least f.level (lexeme b) (same_line b) ≡ true → goes_on i least f b ≡ true
unfolding goes_on
going i least f b h = h

-- Where reading comes to something, it comes to something larger.
pub grow : {i : Bool} {f f' : Found} {a b b' : Text} (limit least : ℕ) → Reach i limit least f a b → length b' < length b → 1 < binds i (lexeme b) → least ≤ gives i f.level (lexeme b) → needs i (lexeme b) ≤ f.level → suits f.level (lexeme b) (same_line b) ≡ true → extended (read limit) i f b ≡ Some (f', b') → Reach i limit least f' a b'
grow {i} {f} {f'} {a} {b} {b'} limit least from shorter some low high suit x = go from.turns from.enough from.same
  where
    go : (n : ℕ) → length b ≤ n → at_level (read limit) i least a ≡ climb (read limit) i least n f b → Reach i limit least f' a b'
    go zero enough same = absurd (omega arith)
    go (suc n) enough same = record { turns = n; enough = omega arith; same = same ∙ turn i limit n least f f' b b' (going i least f b (goes i least f.level (lexeme b) (same_line b) some low high suit)) x }

-- ---- what begins one

first_level : (i : Bool) (f : Found) (a : Text) {b : Text} (limit least : ℕ) → least ≤ f.level → prefix (read limit) i least a ≡ Some (f, b) → at_level (read limit) i least a ≡ climb (read limit) i least (length b) f b
unfolding at_level
first_level i f a limit least low x = rw (x, le-leb least f.level low)

pub first_reach : {i : Bool} {f : Found} {a b : Text} (limit least : ℕ) → least ≤ f.level → prefix (read limit) i least a ≡ Some (f, b) → Reach i limit least f a b
first_reach {i} {f} {a} {b} limit least low x = record { turns = length b; enough = omega arith; same = first_level i f a limit least low x }

low_name : (i : Bool) (b : Text) → tightness i b ≤ 21 → takes_name b ≡ false
unfolding tightness
low_name i b h = go (takes_name b) refl h
  where
    go : (t : Bool) → takes_name b ≡ t → tightness_by t (broken (lexeme b) (same_line b)) i (binds i (lexeme b)) ≤ 21 → takes_name b ≡ false
    go false e h = e
    go true e h = absurd (omega arith)

pub no_name : (i : Bool) (b : Text) → holds i full 21 b ≡ true → takes_name b ≡ false
no_name i b h = low_name i b (full_low i 21 b h)

-- one of the highest level
pub first_read : {i : Bool} {d : ℕ} {f : Found} {a b : Text} → f.level ≡ 21 → edge f.tree ≡ full → length b < length a → 0 < d → ((limit least : ℕ) → d ≤ suc limit → least ≤ 21 → takes_name b ≡ false → (least ≤ 2 → quiet f.tree b ≡ true) → prefix (read limit) i least a ≡ Some (f, b)) → IsRead i d f a b
first_read {i} {d} {f} {a} {b} top is shorter deep reads = record {
  shorter = shorter;
  high = rw top (omega arith);
  deep = deep;
  ends = is_full is;
  keeps = 21;
  some = omega arith;
  wide = λ h. rw top (omega arith);
  tight = λ n h h' h''. omega arith;
  calls = λ h. omega arith;
  reach = λ limit least low fits k q. first_reach limit least low (reads limit least fits (rw (sym top) low) (no_name i b (subst (λ x. holds i x 21 b ≡ true) is k)) q);
}

-- ---- an expression and an operator behind it

-- The token behind an expression of level m goes on with it to one of level k.
pub record Joins (i : Bool) (m k t : ℕ) (b : Text) : Type 0 where
  pub some : 1 < binds i (lexeme b)
  pub gives_is : gives i m (lexeme b) ≡ k
  pub needs_low : needs i (lexeme b) ≤ m
  pub suit : suits m (lexeme b) (same_line b) ≡ true
  pub tight : tightness i b ≤ t

pub sign_joins : {i : Bool} {m k : ℕ} {s b c : Text} → Seen (sign s) b c → 1 < sign_binds s → sign_gives m s ≡ k → sign_needs s ≤ m → is_update s ≡ false → not (is_text s (codes "??")) || is_coalesce_left m ≡ true → is_text s (codes "=>") ≡ false → Joins i m k (sign_binds s) b
sign_joins {i} {m} {k} {s} {b} x some gives_is needs_low no_update suit no_arrow = record {
  some = rw (x.lexeme_is) some;
  gives_is = rw (x.lexeme_is) gives_is;
  needs_low = rw (x.lexeme_is) needs_low;
  suit = rw (x.lexeme_is, no_update, suit) refl;
  tight = let t = sign_tight i x no_arrow no_update in omega arith;
}

cases_le : (m n : ℕ) → m ≤ n ⊎ n < m
cases_le m n = elim (cases_lt n m) as (λ _. m ≤ n ⊎ n < m) [ inl h ↦ inr h | inr h ↦ inl h ]

pub joined_read : {i : Bool} {d d' k t : ℕ} {f : Found} {e : Term} {a b c : Text} (keeps : ℕ) (left : IsRead i d f a b) → Joins i f.level k t b → quiet f.tree b ≡ true → d ≤ d' → 3 < f.level → k ≤ f.level → 1 < k → t ≤ left.keeps → length c < length b → Ends k (edge e) → 1 ≤ keeps → (3 < k → k ≤ suc keeps) → (3 < k → k ≤ 14 → k ≤ keeps) → (19 ≤ k → 19 ≤ keeps) → ((limit : ℕ) → d' ≤ suc limit → holds i (edge e) keeps c ≡ true → extended (read limit) i f b ≡ Some (closed e k, c)) → IsRead i d' (closed e k) a c
joined_read {i} {d} {d'} {k} {t} {f} {e} {a} {b} {c} keeps left j q deep high low some_k tight shorter ends some wide mid calls extends = record {
  shorter = let s = left.shorter in omega arith;
  high = some_k;
  deep = let s = left.deep in omega arith;
  ends = ends;
  keeps = keeps;
  some = some;
  wide = wide;
  tight = λ n h h' h''. reaches n h h' h'' (cases_le k 14);
  calls = calls;
  reach = λ limit least below fits holding qt.
      grow limit least (left.reach limit least (omega arith) (omega arith) (tight_holds i (edge f.tree) f.level left.keeps b left.ends high (let jt = j.tight in omega arith)) (λ _. q)) shorter j.some (let g = j.gives_is in rw g below) j.needs_low j.suit (extends limit fits holding);
}
  where
    reaches : (n : ℕ) → n ≤ 14 → 3 < k → n ≤ k → k ≤ 14 ⊎ 14 < k → n ≤ keeps
    reaches n h h' h'' (inl x) = let y = mid h' x in omega arith
    reaches n h h' h'' (inr x) = let y = wide h' in omega arith

-- one that begins with what binds its parts
pub lower_read : {i : Bool} {d : ℕ} {f : Found} {a b : Text} (keeps : ℕ) → length b < length a → 1 < f.level → 0 < d → Ends f.level (edge f.tree) → 1 ≤ keeps → (3 < f.level → f.level ≤ suc keeps) → (3 < f.level → f.level ≤ 14 → f.level ≤ keeps) → (19 ≤ f.level → 19 ≤ keeps) → ((limit least : ℕ) → least ≤ f.level → d ≤ suc limit → holds i (edge f.tree) keeps b ≡ true → prefix (read limit) i least a ≡ Some (f, b)) → IsRead i d f a b
lower_read {i} {d} {f} {a} {b} keeps shorter high deep ends some wide mid calls reads = record {
  shorter = shorter;
  high = high;
  deep = deep;
  ends = ends;
  keeps = keeps;
  some = some;
  wide = wide;
  tight = λ n h h' h''. reaches n h h' h'' (cases_le f.level 14);
  calls = calls;
  reach = λ limit least low fits k q. first_reach limit least low (reads limit least low fits k);
}
  where
    reaches : (n : ℕ) → n ≤ 14 → 3 < f.level → n ≤ f.level → f.level ≤ 14 ⊎ 14 < f.level → n ≤ keeps
    reaches n h h' h'' (inl x) = let y = mid h' x in omega arith
    reaches n h h' h'' (inr x) = let y = wide h' in omega arith

-- the edge of a part at the end
pub ends_right : {n k : ℕ} {x : Edge} → Ends n x → k ≤ 17 → (n ≤ 3 → k ≤ 3) → Ends k x
ends_right (is_full e) h h' = is_full e
ends_right (is_updated e top) h h' = is_updated e h
ends_right (is_loose e top) h h' = is_loose e (h' top)

pub ends_low : {n : ℕ} {x : Edge} → Ends n x → Ends 2 x
ends_low (is_full e) = is_full e
ends_low (is_updated e top) = is_updated e (omega arith)
ends_low (is_loose e top) = is_loose e (omega arith)
