-- The token behind a gap.
use Rattle.std.proofs.Common.{◌≡◌, refl, ◌+◌, ◌≤◌, Bool, true, false, [], ◌∷◌, ◌++◌, length, get_or, None, Some, sym, ap, subst, ◌∙◌, append_assoc, arith}
use Rattle.std.specs.Str.{chars, IsUtf8, is_utf8, IsCharBoundary}
use Rattle.std.proofs.lemmas.Str.{IsUtf8-drop, IsUtf8-from_is_utf8}
use Rattle.std.proofs.lemmas.List.{length-append, get_or-append-add}
use Rattle.std.proofs.Math.Seq.{drop-append_seam}
use Rattle.js_term.specs.Term.{Text}
use Rattle.js_term.specs.Lexeme.{is_one_of}
use Rattle.js_syntax.specs.Lexical.{white_space, line_ends, ends_line}
use Rattle.js_syntax.specs.Tokens.{Gap, no_gap, blank, line_end, Front, Lexeme, Lexed, Token}
use Rattle.js_syntax.specs.Tokens as token
use Rattle.js_syntax.proofs.Fronts.{among}
use Rattle.js_tokens.specs.Gaps.{Behind, gap}
use Rattle.js_tokens.specs.Looks.{is_div_lexeme}
use Rattle.js_tokens.specs.Next.{cut_behind, next}
use Rattle.js_tokens.proofs.Beginnings.{each_of, begins_any_split}
use Rattle.js_tokens.proofs.GapLaws.{front_there, front_found}
use Rattle.js_tokens.proofs.NameLaws.{behind_utf8}
use Rattle.js_tokens.proofs.LexemeLaws.{cut_there, cut_found}

space_utf8 : (w : Text) → is_one_of w white_space ≡ true → IsUtf8 w
unfolding is_utf8 chars lib.Utf8.encode
space_utf8 w e = IsUtf8-from_is_utf8 w (among is_utf8 white_space w refl e)

pub end_utf8 : (w : Text) → is_one_of w line_ends ≡ true → IsUtf8 w
unfolding is_utf8 chars lib.Utf8.encode
end_utf8 w e = IsUtf8-from_is_utf8 w (among is_utf8 line_ends w refl e)

close_utf8 : IsUtf8 (42 ∷ 47 ∷ [])
unfolding is_utf8 chars lib.Utf8.encode
close_utf8 = IsUtf8-from_is_utf8 (42 ∷ 47 ∷ []) refl

-- a text may be cut where no character goes on
pub cut_utf8 : (x a : Text) → IsUtf8 (x ++ a) → (128 ≤ get_or a 0 0 → 192 ≤ get_or a 0 0) → IsUtf8 a
cut_utf8 x a u h =
    let at : get_or (x ++ a) (length x) 0 ≡ get_or a 0 0 = (let zero : length x + 0 ≡ length x = omega arith in ap (λ n. get_or (x ++ a) n 0) (sym zero) ∙ get_or-append-add x a 0 0) in
    let within : length x ≤ length (x ++ a) = simp length-append (omega arith) in
    let boundary : IsCharBoundary (x ++ a) (length x) = (within, λ k l. rw at (h (rw at at l))) in
    subst IsUtf8 (drop-append_seam x a) (IsUtf8-drop (x ++ a) (length x) u boundary)

pub end_opens : (a : Text) → ends_line a ≡ true → 128 ≤ get_or a 0 0 → 192 ≤ get_or a 0 0
end_opens [] e h = absurd (omega arith)
end_opens (c ∷ s) e h =
    let r = begins_any_split line_ends (c ∷ s) e in
    subst (λ z. 128 ≤ get_or z 0 0 → 192 ≤ get_or z 0 0) (sym r.split.is) (each_of (λ w. 128 ≤ get_or (w ++ r.split.rest) 0 0 → 192 ≤ get_or (w ++ r.split.rest) 0 0) line_ends r.front ((λ h. absurd (omega arith)), ((λ h. absurd (omega arith)), ((λ h. omega arith), ((λ h. omega arith), tt)))) r.among) h

pub gap_utf8 : {line : Bool} {a b : Text} → Gap line a b → IsUtf8 a → IsUtf8 b
gap_utf8 no_gap u = u
gap_utf8 (blank w {a} e g) u = gap_utf8 g (behind_utf8 w a (space_utf8 w e) u)
gap_utf8 (line_end w {a} e g) u = gap_utf8 g (behind_utf8 w a (end_utf8 w e) u)
gap_utf8 (token.line_comment x {a} plain stops g) u = gap_utf8 g (cut_utf8 (47 ∷ 47 ∷ x) a u (end_opens a stops))
gap_utf8 (token.block_comment x {a} plain g) u =
    let close = cut_utf8 (47 ∷ 42 ∷ x) (42 ∷ 47 ∷ a) u (λ h. absurd (omega arith)) in
    gap_utf8 g (behind_utf8 (42 ∷ 47 ∷ []) a close_utf8 close)

-- What is found behind the gap is the token that stands there.
pub token_found : (a : Text) → IsUtf8 a → (l : Lexeme) (b : Text) → next a ≡ Some (l, b) → Token a l b
unfolding next
token_found a u l b e = go (gap false a) refl e
  where
    go : (g : Behind) → gap false a ≡ g → cut_behind g ≡ Some (l, b) → Token a l b
    go None is e = absurd (cc)
    go (Some (line, m)) is e =
        let front = front_found line a m is in
        record { line = line; middle = m; front = front; lexed = cut_found m (gap_utf8 front.gap u) l b e }

-- The token that stands there is found, and no other one, nor another rest.
pub token_there : {a b : Text} {l : Lexeme} → Token a l b → IsUtf8 a → is_div_lexeme l ≡ true → next a ≡ Some (l, b)
unfolding next
token_there {a} {b} {l} t u goal = ap cut_behind (front_there t.front) ∙ cut_there t.lexed (gap_utf8 t.front.gap u) goal

-- what a gap leaves is the end of the text
pub record Leaves (a b : Text) : Type 0 where
  pub front : Text
  pub is : a ≡ front ++ b

leaves_behind : (x a b : Text) → Leaves a b → Leaves (x ++ a) b
leaves_behind x a b h = record { front = x ++ h.front; is = ap (λ z. x ++ z) h.is ∙ sym (append_assoc x h.front b) }

pub gap_leaves : {line : Bool} {a b : Text} → Gap line a b → Leaves a b
gap_leaves no_gap = record { front = []; is = refl }
gap_leaves {b = b} (blank w {a} e g) = leaves_behind w a b (gap_leaves g)
gap_leaves {b = b} (line_end w {a} e g) = leaves_behind w a b (gap_leaves g)
gap_leaves {b = b} (token.line_comment x {a} plain stops g) = leaves_behind (47 ∷ 47 ∷ x) a b (gap_leaves g)
gap_leaves {b = b} (token.block_comment x {a} plain g) = leaves_behind (47 ∷ 42 ∷ x) (42 ∷ 47 ∷ a) b (leaves_behind (42 ∷ 47 ∷ []) a b (gap_leaves g))
