-- What may follow an expression, and takes none of it.
use Rattle.std.proofs.Common.{◌≡◌, ◌≤◌, ◌<◌, ℕ, Bool, true, false, not, ◌&&◌, ◌||◌, if◌then◌else◌, nat_le, nat_eq, List, [], ◌∷◌, Option, Some, None, refl, sym, subst, arith, codes}
use Rattle.std.specs.List.{list_all}
use Rattle.std.proofs.lemmas.Bool.{eqb-true, false≢true, not-true, and_parts, leb-true, le-leb, lt-leb, or_left, or_right}
use Rattle.js_term.specs.Term.{Text, is_text}
use Rattle.js_term.specs.Lexeme.{is_one_of}
use Rattle.js_syntax.specs.Tokens.{Lexeme, word, private_name, number, big_integer, string, regexp, no_substitution, template_head, template_middle, template_tail, sign}
use Rattle.js_syntax.specs.Edges.{Edge, full, updated, loose, exports, accessor, static, plain, is_update, is_access, access_signs, level_among, member_level}
use Rattle.js_syntax.proofs.Fronts.{among}
use Rattle.js_tokens.specs.Next.{lexeme, after}
use Rattle.js_reading.specs.Reading.{Found, is_sign, is_word, sees, sees_word, same_line, at_end, arrow_here}
use Rattle.js_reading.specs.Operators.{or_zero, sign_levels, sign_binds, word_binds, binds, sign_gives, sign_needs, suits, goes_on_by, goes_on}
use Rattle.js_reading.specs.Expressions.{ends_operand, is_arrow_name}
use Rattle.js_reading.proofs.TokensThere.{Seen}
use Rattle.js_reading.proofs.Lists.{is_end}

-- ---- how tightly a text takes what stands before it

-- an arrow, and what goes on with `async` on the same line
unfoldable pub takes_name : Text → Bool
takes_name b = arrow_here b || (same_line b && (sees_word (codes "function") b || is_arrow_name (lexeme b) (after b)))

-- an update on another line takes nothing
abbrev pub broken : Option Lexeme → Bool → Bool
broken (Some (sign s)) line = is_update s && not line
broken o line = false

abbrev pub tightness_by : Bool → Bool → Bool → ℕ → ℕ
tightness_by true stays i n = 22
tightness_by false true i n = 0
tightness_by false false i n = n

unfoldable pub tightness : Bool → Text → ℕ
tightness i b = tightness_by (takes_name b) (broken (lexeme b) (same_line b)) i (binds i (lexeme b))

abbrev pub is_access_at : Option Lexeme → Bool
is_access_at None = false
is_access_at (Some l) = is_access l

-- What may follow a part with this edge: what binds no tighter; and behind an update what goes on with calls and members
-- alone; and behind what ends in no expression, whatever ends an operand.
unfoldable pub holds : Bool → Edge → ℕ → Text → Bool
holds i loose k b = ends_operand b
holds i updated k b = nat_le (tightness i b) k || is_access_at (lexeme b)
holds i x k b = nat_le (tightness i b) k

-- An expression of this level has this edge.
pub data Ends (n : ℕ) (x : Edge) : Type 0 where
  is_full : x ≡ full → Ends n x
  is_updated : x ≡ updated → n ≤ 17 → Ends n x
  is_loose : x ≡ loose → n ≤ 3 → Ends n x

-- ---- signs by their levels

-- what holds of each sign of a row holds of one that has a level
abbrev rows_all : (Text → ℕ → Bool) → List (List Text × ℕ) → Bool
rows_all p [] = true
rows_all p ((ops, n) ∷ rows) = list_all (λ s. p s n) ops && rows_all p rows

row_step : (p : Text → ℕ → Bool) (s : Text) (n m : ℕ) (ops : List Text) (rest : Option ℕ) (b : Bool) → is_one_of s ops ≡ b → list_all (λ t. p t m) ops ≡ true → (rest ≡ Some n → p s n ≡ true) → (if b then Some m else rest) ≡ Some n → p s n ≡ true
row_step p s n m ops rest true e all more h = let same : m ≡ n = cc in subst (λ k. p s k ≡ true) same (among (λ t. p t m) ops s all e)
row_step p s n m ops rest false e all more h = more h

row_level : (p : Text → ℕ → Bool) (rows : List (List Text × ℕ)) (s : Text) (n : ℕ) → rows_all p rows ≡ true → level_among s rows ≡ Some n → p s n ≡ true
row_level p [] s n all h = absurd (cc)
row_level p ((ops, m) ∷ rows) s n all h =
    let both = and_parts (list_all (λ t. p t m) ops) (rows_all p rows) all in
    row_step p s n m ops (level_among s rows) (is_one_of s ops) refl both.0 (λ e. row_level p rows s n both.1 e) h

pub by_level : (p : Text → ℕ → Bool) (rows : List (List Text × ℕ)) (s : Text) (n : ℕ) → rows_all p rows ≡ true → level_among s rows ≡ Some n → p s n ≡ true
by_level p rows s n all h = row_level p rows s n all h

pub sign_row : (p : Text → ℕ → Bool) (s : Text) → rows_all p sign_levels ≡ true → 1 ≤ sign_binds s → p s (sign_binds s) ≡ true
sign_row p s all h = go (level_among s sign_levels) refl h
  where
    go : (o : Option ℕ) → level_among s sign_levels ≡ o → 1 ≤ or_zero o → p s (or_zero o) ≡ true
    go None e h = absurd (omega arith)
    go (Some n) e h = row_level p sign_levels s n all e

needs_four : (s : Text) → 1 ≤ sign_binds s → nat_le 2 (sign_binds s) && nat_le 4 (sign_needs s) && nat_le (sign_binds s) 19 ≡ true
needs_four s h = sign_row (λ t n. nat_le 2 n && nat_le 4 (sign_needs t) && nat_le n 19) s refl h

low_gives : (n : ℕ) (s : Text) → sign_binds s ≤ 18 → sign_gives n s ≡ sign_binds s
low_gives n s h = go (is_one_of s (codes "[" ∷ codes "." ∷ [])) refl
  where
    go : (t : Bool) → is_one_of s (codes "[" ∷ codes "." ∷ []) ≡ t → (if t then member_level n else sign_binds s) ≡ sign_binds s
    go false e = refl
    go true e = absurd (let x = leb-true 19 (sign_binds s) (among (λ t. nat_le 19 (sign_binds t)) (codes "[" ∷ codes "." ∷ []) s refl e) in omega arith)

-- ---- what goes on with nothing

and_last : (p q r s : Bool) → s ≡ false → (p && q && r && s) ≡ false
and_last true true true s h = h
and_last true true false s h = refl
and_last true false r s h = refl
and_last false q r s h = refl

and_second : (p q r s : Bool) → q ≡ false → (p && q && r && s) ≡ false
and_second true true r s h = absurd (false≢true (sym h))
and_second true false r s h = refl
and_second false q r s h = refl

and_third : (p q r s : Bool) → (p ≡ true → r ≡ false) → (p && q && r && s) ≡ false
and_third true true true s h = absurd (false≢true (sym (h refl)))
and_third true true false s h = refl
and_third true false r s h = refl
and_third false q r s h = refl

broken_suits : (n : ℕ) (s : Text) (line : Bool) → (is_update s && not line) ≡ true → suits n (Some (sign s)) line ≡ false
broken_suits n s line h = let both = and_parts (is_update s) (not line) h in go line both.0 both.1
  where
    go : (line : Bool) → is_update s ≡ true → not line ≡ true → suits n (Some (sign s)) line ≡ false
    go true is h = absurd (false≢true h)
    go false is h = rw is refl

broken_stops : (i : Bool) (least n : ℕ) (o : Option Lexeme) (line : Bool) → broken o line ≡ true → goes_on_by i least n o line ≡ false
broken_stops i least n None line h = absurd (false≢true h)
broken_stops i least n (Some (sign s)) line h = and_last (nat_le 2 (sign_binds s)) (nat_le least (sign_gives n s)) (nat_le (sign_needs s) n) _ (broken_suits n s line h)
broken_stops i least n (Some (word x)) line h = absurd (false≢true h)
broken_stops i least n (Some (private_name x)) line h = absurd (false≢true h)
broken_stops i least n (Some (number x)) line h = absurd (false≢true h)
broken_stops i least n (Some (big_integer x)) line h = absurd (false≢true h)
broken_stops i least n (Some (string x v)) line h = absurd (false≢true h)
broken_stops i least n (Some (regexp x v)) line h = absurd (false≢true h)
broken_stops i least n (Some (no_substitution x)) line h = absurd (false≢true h)
broken_stops i least n (Some (template_head x)) line h = absurd (false≢true h)
broken_stops i least n (Some (template_middle x)) line h = absurd (false≢true h)
broken_stops i least n (Some (template_tail x)) line h = absurd (false≢true h)

low_stops : (i : Bool) (least n : ℕ) (o : Option Lexeme) (line : Bool) → binds i o < least → binds i o ≤ 18 → goes_on_by i least n o line ≡ false
low_stops i least n None line h low = refl
low_stops i least n (Some (sign s)) line h low = and_second (nat_le 2 (sign_binds s)) (nat_le least (sign_gives n s)) (nat_le (sign_needs s) n) _ (rw (low_gives n s low) (lt-leb least (sign_binds s) h))
low_stops i least n (Some (word x)) line h low = and_second (nat_le 2 (word_binds i x)) (nat_le least (word_binds i x)) (nat_le (word_binds i x) n) true (lt-leb least (word_binds i x) h)
low_stops i least n (Some (private_name x)) line h low = refl
low_stops i least n (Some (number x)) line h low = refl
low_stops i least n (Some (big_integer x)) line h low = refl
low_stops i least n (Some (string x v)) line h low = refl
low_stops i least n (Some (regexp x v)) line h low = refl
low_stops i least n (Some (no_substitution x)) line h low = absurd (omega arith)
low_stops i least n (Some (template_head x)) line h low = absurd (omega arith)
low_stops i least n (Some (template_middle x)) line h low = refl
low_stops i least n (Some (template_tail x)) line h low = refl

tight_stops : (i : Bool) (least n k : ℕ) (t br : Bool) (o : Option Lexeme) (line : Bool) → broken o line ≡ br → tightness_by t br i (binds i o) ≤ k → k < least → k ≤ 18 → goes_on_by i least n o line ≡ false
tight_stops i least n k true br o line e h below low = absurd (omega arith)
tight_stops i least n k false true o line e h below low = broken_stops i least n o line e
tight_stops i least n k false false o line e h below low = low_stops i least n o line (omega arith) (omega arith)

-- calls and members go on with nothing below their level
access_stops : (i : Bool) (least n : ℕ) (o : Option Lexeme) (line : Bool) → is_access_at o ≡ true → n ≤ 17 → goes_on_by i least n o line ≡ false
access_stops i least n None line h low = absurd (false≢true h)
access_stops i least n (Some (sign s)) line h low =
    let x = leb-true 19 (sign_needs s) (among (λ t. nat_le 19 (sign_needs t)) access_signs s refl h) in
    and_third (nat_le 2 (sign_binds s)) (nat_le least (sign_gives n s)) (nat_le (sign_needs s) n) _ (λ _. lt-leb (sign_needs s) n (omega arith))
access_stops i least n (Some (no_substitution x)) line h low = and_third true (nat_le least (member_level n)) (nat_le 19 n) true (λ _. lt-leb 19 n (omega arith))
access_stops i least n (Some (template_head x)) line h low = and_third true (nat_le least (member_level n)) (nat_le 19 n) true (λ _. lt-leb 19 n (omega arith))
access_stops i least n (Some (word x)) line h low = absurd (false≢true h)
access_stops i least n (Some (private_name x)) line h low = absurd (false≢true h)
access_stops i least n (Some (number x)) line h low = absurd (false≢true h)
access_stops i least n (Some (big_integer x)) line h low = absurd (false≢true h)
access_stops i least n (Some (string x v)) line h low = absurd (false≢true h)
access_stops i least n (Some (regexp x v)) line h low = absurd (false≢true h)
access_stops i least n (Some (template_middle x)) line h low = absurd (false≢true h)
access_stops i least n (Some (template_tail x)) line h low = absurd (false≢true h)

needs_more : (s : Text) → nat_le 2 (sign_binds s) ≡ true → 4 ≤ sign_needs s
needs_more s h =
    let some = leb-true 2 (sign_binds s) h in
    let both = and_parts _ _ (sign_row (λ t n. nat_le 4 (sign_needs t) && true) s refl (omega arith)) in
    leb-true 4 (sign_needs s) both.0

word_high : (i : Bool) (x : Text) → nat_le 2 (word_binds i x) ≡ true → 4 ≤ word_binds i x
word_high i x h = go (is_text x (codes "in")) i (is_text x (codes "instanceof")) h
  where
    go : (p i q : Bool) → nat_le 2 (if p then (if i then 11 else 0) else if q then 11 else 0) ≡ true → 4 ≤ (if p then (if i then 11 else 0) else if q then 11 else 0)
    go true true q h = omega arith
    go true false q h = absurd (false≢true h)
    go false i true h = omega arith
    go false i false h = absurd (false≢true h)

-- nothing goes on with an expression of a low level
least_stops : (i : Bool) (least n : ℕ) (o : Option Lexeme) (line : Bool) → n ≤ 3 → goes_on_by i least n o line ≡ false
least_stops i least n None line low = refl
least_stops i least n (Some (sign s)) line low =
    and_third (nat_le 2 (sign_binds s)) (nat_le least (sign_gives n s)) (nat_le (sign_needs s) n) _ (λ h. lt-leb (sign_needs s) n (let x = needs_more s h in omega arith))
least_stops i least n (Some (word x)) line low =
    and_third (nat_le 2 (word_binds i x)) (nat_le least (word_binds i x)) (nat_le (word_binds i x) n) true (λ h. lt-leb (word_binds i x) n (let y = word_high i x h in omega arith))
least_stops i least n (Some (private_name x)) line low = refl
least_stops i least n (Some (number x)) line low = refl
least_stops i least n (Some (big_integer x)) line low = refl
least_stops i least n (Some (string x v)) line low = refl
least_stops i least n (Some (regexp x v)) line low = refl
least_stops i least n (Some (no_substitution x)) line low = and_third true (nat_le least (member_level n)) (nat_le 19 n) true (λ _. lt-leb 19 n (omega arith))
least_stops i least n (Some (template_head x)) line low = and_third true (nat_le least (member_level n)) (nat_le 19 n) true (λ _. lt-leb 19 n (omega arith))
least_stops i least n (Some (template_middle x)) line low = refl
least_stops i least n (Some (template_tail x)) line low = refl

plainly_stops : (i : Bool) (least k n : ℕ) (b : Text) → nat_le (tightness i b) k ≡ true → k < least → k ≤ 18 → goes_on_by i least n (lexeme b) (same_line b) ≡ false
unfolding tightness
plainly_stops i least k n b h below low = tight_stops i least n k (takes_name b) (broken (lexeme b) (same_line b)) (lexeme b) (same_line b) refl (leb-true _ k h) below low

pub either_case : {P : Type 0} (p q : Bool) → (p || q) ≡ true → (p ≡ true → P) → (q ≡ true → P) → P
either_case true q h f g = f refl
either_case false q h f g = g h

-- What may follow goes on with nothing in a tighter place.
pub stops : (i : Bool) (least k : ℕ) (f : Found) (x : Edge) (b : Text) → Ends f.level x → holds i x k b ≡ true → k < least → k ≤ 18 → goes_on i least f b ≡ false
unfolding goes_on holds
stops i least k f x b (is_full e) h below low = plainly_stops i least k f.level b (subst (λ y. holds i y k b ≡ true) e h) below low
stops i least k f x b (is_updated e top) h below low =
    either_case (nat_le (tightness i b) k) (is_access_at (lexeme b)) (subst (λ y. holds i y k b ≡ true) e h)
    (λ z. plainly_stops i least k f.level b z below low)
    (λ z. access_stops i least f.level (lexeme b) (same_line b) z top)
stops i least k f x b (is_loose e top) h below low = least_stops i least f.level (lexeme b) (same_line b) top

-- ---- what ends an expression may follow it

end_binds : (i : Bool) (o : Option Lexeme) → is_end o ≡ true → binds i o ≡ 0
end_binds i None h = absurd (false≢true h)
end_binds i (Some (sign s)) h = eqb-true (sign_binds s) 0 (among (λ t. nat_eq (sign_binds t) 0) (codes ")" ∷ codes "]" ∷ codes "}" ∷ codes "," ∷ codes ";" ∷ codes ":" ∷ []) s refl h)
end_binds i (Some (word x)) h = absurd (false≢true h)
end_binds i (Some (private_name x)) h = absurd (false≢true h)
end_binds i (Some (number x)) h = absurd (false≢true h)
end_binds i (Some (big_integer x)) h = absurd (false≢true h)
end_binds i (Some (string x v)) h = absurd (false≢true h)
end_binds i (Some (regexp x v)) h = absurd (false≢true h)
end_binds i (Some (no_substitution x)) h = absurd (false≢true h)
end_binds i (Some (template_head x)) h = absurd (false≢true h)
end_binds i (Some (template_middle x)) h = absurd (false≢true h)
end_binds i (Some (template_tail x)) h = absurd (false≢true h)

abbrev pub name_by : Option Lexeme → Bool → Bool → Text → Bool
name_by o line arrow c = (is_sign (codes "=>") o && line) || (line && (is_word (codes "function") o || is_arrow_name o c))

-- a sign takes no name, unless it is an arrow
pub sign_takes : (s b : Text) → lexeme b ≡ Some (sign s) → is_text s (codes "=>") ≡ false → takes_name b ≡ false
unfolding takes_name arrow_here sees sees_word
sign_takes s b is other = rw (is, other) (go (same_line b))
  where
    go : (line : Bool) → (line && false) ≡ false
    go true = refl
    go false = refl

zero_tight : (i : Bool) (br : Bool) (n : ℕ) → n ≡ 0 → tightness_by false br i n ≡ 0
zero_tight i true n h = refl
zero_tight i false n h = h

end_takes : (b : Text) → is_end (lexeme b) ≡ true → takes_name b ≡ false
end_takes b h = go (lexeme b) refl h
  where
    go : (o : Option Lexeme) → lexeme b ≡ o → is_end o ≡ true → takes_name b ≡ false
    go (Some (sign s)) is h = sign_takes s b is (not-true _ (among (λ t. not (is_text t (codes "=>"))) (codes ")" ∷ codes "]" ∷ codes "}" ∷ codes "," ∷ codes ";" ∷ codes ":" ∷ []) s refl h))
    go None is h = absurd (false≢true h)
    go (Some (word x)) is h = absurd (false≢true h)
    go (Some (private_name x)) is h = absurd (false≢true h)
    go (Some (number x)) is h = absurd (false≢true h)
    go (Some (big_integer x)) is h = absurd (false≢true h)
    go (Some (string x v)) is h = absurd (false≢true h)
    go (Some (regexp x v)) is h = absurd (false≢true h)
    go (Some (no_substitution x)) is h = absurd (false≢true h)
    go (Some (template_head x)) is h = absurd (false≢true h)
    go (Some (template_middle x)) is h = absurd (false≢true h)
    go (Some (template_tail x)) is h = absurd (false≢true h)

pub end_tight : (i : Bool) (b : Text) → is_end (lexeme b) ≡ true → tightness i b ≡ 0
unfolding tightness
end_tight i b h = rw (end_takes b h) (zero_tight i (broken (lexeme b) (same_line b)) (binds i (lexeme b)) (end_binds i (lexeme b) h))

ends_eight : (p q a b c d e f : Bool) → (a || (b || (c || (d || (e || (f || false)))))) ≡ true → (p || q || a || b || c || d || e || f) ≡ true
ends_eight true q a b c d e f h = refl
ends_eight false true a b c d e f h = refl
ends_eight false false true b c d e f h = refl
ends_eight false false false true c d e f h = refl
ends_eight false false false false true d e f h = refl
ends_eight false false false false false true e f h = refl
ends_eight false false false false false false true f h = refl
ends_eight false false false false false false false true h = refl
ends_eight false false false false false false false false h = h

pub end_operand : (b : Text) → is_end (lexeme b) ≡ true → ends_operand b ≡ true
unfolding ends_operand sees
end_operand b h = ends_eight (not (same_line b)) (at_end b) (is_sign (codes ")") (lexeme b)) (is_sign (codes "]") (lexeme b)) (is_sign (codes "}") (lexeme b)) (is_sign (codes ",") (lexeme b)) (is_sign (codes ";") (lexeme b)) (is_sign (codes ":") (lexeme b)) (go (lexeme b) h)
  where
    go : (o : Option Lexeme) → is_end o ≡ true → (is_sign (codes ")") o || (is_sign (codes "]") o || (is_sign (codes "}") o || (is_sign (codes ",") o || (is_sign (codes ";") o || (is_sign (codes ":") o || false)))))) ≡ true
    go (Some (sign s)) h = h
    go None h = absurd (false≢true h)
    go (Some (word x)) h = absurd (false≢true h)
    go (Some (private_name x)) h = absurd (false≢true h)
    go (Some (number x)) h = absurd (false≢true h)
    go (Some (big_integer x)) h = absurd (false≢true h)
    go (Some (string x v)) h = absurd (false≢true h)
    go (Some (regexp x v)) h = absurd (false≢true h)
    go (Some (no_substitution x)) h = absurd (false≢true h)
    go (Some (template_head x)) h = absurd (false≢true h)
    go (Some (template_middle x)) h = absurd (false≢true h)
    go (Some (template_tail x)) h = absurd (false≢true h)

-- what binds no tighter and ends an operand may follow whatever stands in front
pub free_holds : (i : Bool) (x : Edge) (k : ℕ) (b : Text) → tightness i b ≤ k → ends_operand b ≡ true → holds i x k b ≡ true
unfolding holds
free_holds i loose k b h e = e
free_holds i updated k b h e = or_left (nat_le (tightness i b) k) _ (le-leb (tightness i b) k h)
free_holds i full k b h e = le-leb (tightness i b) k h
free_holds i exports k b h e = le-leb (tightness i b) k h
free_holds i accessor k b h e = le-leb (tightness i b) k h
free_holds i static k b h e = le-leb (tightness i b) k h
free_holds i plain k b h e = le-leb (tightness i b) k h

pub end_holds : (i : Bool) (x : Edge) (k : ℕ) (b : Text) → is_end (lexeme b) ≡ true → holds i x k b ≡ true
end_holds i x k b h = free_holds i x k b (let t = end_tight i b h in omega arith) (end_operand b h)

-- nothing tighter may follow what does not end loosely
pub tight_holds : (i : Bool) (x : Edge) (n k : ℕ) (b : Text) → Ends n x → 3 < n → tightness i b ≤ k → holds i x k b ≡ true
unfolding holds
tight_holds i x n k b (is_full e) high h = subst (λ y. holds i y k b ≡ true) (sym e) (le-leb (tightness i b) k h)
tight_holds i x n k b (is_updated e top) high h = subst (λ y. holds i y k b ≡ true) (sym e) (or_left (nat_le (tightness i b) k) _ (le-leb (tightness i b) k h))
tight_holds i x n k b (is_loose e top) high h = absurd (omega arith)

pub wider : (i : Bool) (x : Edge) (k k' : ℕ) (b : Text) → k ≤ k' → holds i x k b ≡ true → holds i x k' b ≡ true
unfolding holds
wider i loose k k' b w h = h
wider i updated k k' b w h = either_case (nat_le (tightness i b) k) (is_access_at (lexeme b)) h (λ z. or_left _ _ (le-leb (tightness i b) k' (let y = leb-true (tightness i b) k z in omega arith))) (λ z. or_right (nat_le (tightness i b) k') _ z)
wider i full k k' b w h = le-leb (tightness i b) k' (let y = leb-true (tightness i b) k h in omega arith)
wider i exports k k' b w h = le-leb (tightness i b) k' (let y = leb-true (tightness i b) k h in omega arith)
wider i accessor k k' b w h = le-leb (tightness i b) k' (let y = leb-true (tightness i b) k h in omega arith)
wider i static k k' b w h = le-leb (tightness i b) k' (let y = leb-true (tightness i b) k h in omega arith)
wider i plain k k' b w h = le-leb (tightness i b) k' (let y = leb-true (tightness i b) k h in omega arith)

-- ---- the tightness of a token

pub sign_tight : (i : Bool) {s b c : Text} → Seen (sign s) b c → is_text s (codes "=>") ≡ false → is_update s ≡ false → tightness i b ≡ sign_binds s
unfolding tightness
sign_tight i {s} {b} x no_arrow no_update = rw (sign_takes s b x.lexeme_is no_arrow, x.lexeme_is, no_update)
