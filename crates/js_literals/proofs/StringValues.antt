-- The value of a string, a plain run and an escape at a time.
use Rattle.std.proofs.Common.{◌≡◌, refl, ℕ, ◌<◌, Bool, true, false, not, if◌then◌else◌, [], ◌∷◌, ◌++◌, Option, Some, None, ap, sym, ◌∙◌, append_assoc, get_or, arith}
use Rattle.std.specs.Prelude.{nat_eq, option_map, is_some}
use Rattle.std.specs.List.{list_all}
use Rattle.std.specs.Str.{IsUtf8}
use Rattle.std.proofs.lemmas.Bool.{and_parts, false≢true}
use Rattle.js_term.specs.Term.{Text}
use Rattle.js_term.specs.Lexeme.{is_plain}
use Rattle.js_syntax.specs.Lexical.{with_byte, decoded, escaped, is_raw_string}
use Rattle.js_tokens.specs.Strings.{no_backslash, string_value}
use Rattle.js_tokens.proofs.RawStrings.{IsRaw, raw_parts, inner_is}
use Rattle.js_tokens.proofs.StringLaws.{plain_value, value_written, raw_has_value, quote_below}
use Rattle.js_literals.specs.Escapes.{Unescaped, unescaped}
use Rattle.js_literals.specs.Values.{IsSplit, added, value_from, characters}
use Rattle.js_literals.proofs.EscapeLaws.{escape_is, same}
use Rattle.js_literals.proofs.EscapeCuts.{escape_cut}
use Rattle.js_tokens.proofs.Cuts.{ascii_cut}

kept : (f : Text → Text) (r : Option Text) → is_some (option_map f r) ≡ is_some r
kept f None = refl
kept f (Some x) = refl

twice : (a b : Text) (r : Option Text) → option_map (λ x. a ++ x) (option_map (λ x. b ++ x) r) ≡ option_map (λ x. (a ++ b) ++ x) r
twice a b None = refl
twice a b (Some x) = ap (λ z. Some z) (sym (append_assoc a b x))

one_more : (c : ℕ) (p : Text) (r : Option Text) → with_byte c (option_map (λ x. p ++ x) r) ≡ option_map (λ x. (c ∷ p) ++ x) r
one_more c p None = refl
one_more c p (Some x) = refl

-- characters that are no backslash add themselves
run : (quote : ℕ) (p rest : Text) → list_all no_backslash p ≡ true → is_some (decoded quote (p ++ rest)) ≡ true → decoded quote (p ++ rest) ≡ option_map (λ x. p ++ x) (decoded quote rest)
run quote [] rest all e = sym (same (decoded quote rest))
run quote (c ∷ p) rest all e = go (nat_eq c 92) (is_plain quote c) (and_parts (not (nat_eq c 92)) _ all) e (run quote p rest)
  where
    go : (b k : Bool) → (not b ≡ true) × (list_all no_backslash p ≡ true) → is_some (if b then escaped quote (p ++ rest) else if k then with_byte c (decoded quote (p ++ rest)) else None) ≡ true → (list_all no_backslash p ≡ true → is_some (decoded quote (p ++ rest)) ≡ true → decoded quote (p ++ rest) ≡ option_map (λ x. p ++ x) (decoded quote rest)) → (if b then escaped quote (p ++ rest) else if k then with_byte c (decoded quote (p ++ rest)) else None) ≡ option_map (λ x. (c ∷ p) ++ x) (decoded quote rest)
    go true k h e f = absurd (false≢true h.0)
    go false true h e f = ap (with_byte c) (f h.1 (sym (kept _ (decoded quote (p ++ rest))) ∙ e)) ∙ one_more c p (decoded quote rest)
    go false false h e f = absurd (false≢true e)

-- a value that is done as far as a text, which goes on with a plain run and an escape
pub step : (quote : ℕ) (value : Option Text) (done text plain behind : Text) → quote < 128 → is_some value ≡ true → value ≡ option_map (λ x. done ++ x) (decoded quote text) → text ≡ plain ++ 92 ∷ behind → list_all no_backslash plain ≡ true → value ≡ option_map (λ x. (done ++ plain) ++ x) (value_from quote (unescaped behind))
step quote value done text plain behind q some e is all =
    let there : is_some (decoded quote (plain ++ 92 ∷ behind)) ≡ true = ap (λ t. is_some (decoded quote t)) (sym is) ∙ sym (kept _ (decoded quote text)) ∙ ap is_some (sym e) ∙ some in
    e
    ∙ ap (λ t. option_map (λ x. done ++ x) (decoded quote t)) is
    ∙ ap (option_map (λ x. done ++ x)) (run quote plain (92 ∷ behind) all there)
    ∙ twice done plain (escaped quote behind)
    ∙ ap (option_map (λ x. (done ++ plain) ++ x)) (escape_is quote behind q)

pub unescaped_step : (quote : ℕ) (value : Option Text) (done : Text) (o : Option ℕ) (rest : Text) → value ≡ option_map (λ x. done ++ x) (value_from quote (Some (o, rest))) → value ≡ option_map (λ x. (done ++ added o) ++ x) (decoded quote rest)
unescaped_step quote value done o rest e = e ∙ twice done (added o) (decoded quote rest)

pub last : (quote : ℕ) (value : Option Text) (done text : Text) → is_some value ≡ true → value ≡ option_map (λ x. done ++ x) (decoded quote text) → list_all no_backslash text ≡ true → value ≡ Some (done ++ text)
last quote value done text some e all = e ∙ ap (option_map (λ x. done ++ x)) (plain_value quote text all (sym (kept _ (decoded quote text)) ∙ ap is_some (sym e) ∙ some))

-- ---- the whole string, by its quote

first_is : (raw : Text) (r : IsRaw raw) → get_or raw 0 0 ≡ r.quote
first_is raw r = ap (λ z. get_or z 0 0) r.is

pub begun : (raw : Text) → is_raw_string raw ≡ true → string_value raw ≡ decoded (get_or raw 0 0) (characters raw)
begun raw e =
    let r = raw_parts raw e in
    ap string_value r.is ∙ value_written r.quote r.front r.quoted ∙ ap (λ q. decoded q r.front) (sym (first_is raw r)) ∙ ap (decoded (get_or raw 0 0)) (sym (inner_is raw r))

pub quote_small : (raw : Text) → is_raw_string raw ≡ true → get_or raw 0 0 < 128
quote_small raw e = let r = raw_parts raw e in let small = quote_below r.quote r.quoted in omega (arith, first_is raw r)

pub has_value : (raw : Text) → is_raw_string raw ≡ true → is_some (string_value raw) ≡ true
has_value raw e = sym (raw_has_value raw) ∙ e

-- what is done of a string, and what is left of its characters
abbrev pub Done : Text → Text → Text → Type 0
Done raw done text = string_value raw ≡ option_map (λ x. done ++ x) (decoded (get_or raw 0 0) text)

pub none_done : (raw done text : Text) → is_raw_string raw ≡ true → done ≡ [] → text ≡ characters raw → Done raw done text
none_done raw done text e d t =
    begun raw e ∙ sym (same (decoded (get_or raw 0 0) (characters raw)))
    ∙ ap (λ z. option_map (λ x. [] ++ x) (decoded (get_or raw 0 0) z)) (sym t)
    ∙ ap (λ z. option_map (λ x. z ++ x) (decoded (get_or raw 0 0) text)) (sym d)

split_done : (raw done text plain behind : Text) → is_raw_string raw ≡ true → Done raw done text → IsSplit 92 text plain behind → string_value raw ≡ option_map (λ x. (done ++ plain) ++ x) (value_from (get_or raw 0 0) (unescaped behind))
split_done raw done text plain behind e d s = step (get_or raw 0 0) (string_value raw) done text plain behind (quote_small raw e) (has_value raw e) d s.is s.others

-- each escape has a value
pub escape_there : (raw done text plain behind : Text) → is_raw_string raw ≡ true → Done raw done text → IsSplit 92 text plain behind → None ≡ unescaped behind → ⊥
escape_there raw done text plain behind e d s none =
    false≢true (ap is_some (ap (λ u. option_map (λ x. (done ++ plain) ++ x) (value_from (get_or raw 0 0) u)) none ∙ sym (split_done raw done text plain behind e d s)) ∙ has_value raw e)

pub more_done : (raw done text plain behind : Text) (o : Option ℕ) (rest whole : Text) → is_raw_string raw ≡ true → Done raw done text → IsSplit 92 text plain behind → ◌≡◌ {A = Unescaped} (Some (o, rest)) (unescaped behind) → whole ≡ (done ++ plain) ++ added o → Done raw whole rest
more_done raw done text plain behind o rest whole e d s is w =
    unescaped_step (get_or raw 0 0) (string_value raw) (done ++ plain) o rest (split_done raw done text plain behind e d s ∙ ap (λ u. option_map (λ x. (done ++ plain) ++ x) (value_from (get_or raw 0 0) u)) (sym is))
    ∙ ap (λ z. option_map (λ x. z ++ x) (decoded (get_or raw 0 0) rest)) (sym w)

pub all_done : (raw done text whole : Text) → is_raw_string raw ≡ true → Done raw done text → list_all no_backslash text ≡ true → whole ≡ done ++ text → string_value raw ≡ Some whole
all_done raw done text whole e d all w = last (get_or raw 0 0) (string_value raw) done text (has_value raw e) d all ∙ ap (λ z. Some z) (sym w)

pub rest_utf8 : (text plain behind : Text) (o : Option ℕ) (rest : Text) → IsUtf8 text → IsSplit 92 text plain behind → ◌≡◌ {A = Unescaped} (Some (o, rest)) (unescaped behind) → IsUtf8 rest
rest_utf8 text plain behind o rest u s is =
    let cut = ascii_cut text plain 92 behind u s.is (omega arith) in
    let more = escape_cut behind (o, rest) cut.utf8 (sym is) in
    more.utf8
