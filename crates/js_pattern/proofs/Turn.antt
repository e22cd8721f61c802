-- One turn of the scanner's loop, and its end.
use Rattle.std.proofs.Common.{◌≡◌, ℕ, List, [], ◌∷◌, ◌++◌, ◌≤◌, length, Option, Some, None, ap, ◌∙◌, refl, arith}
use Rattle.std.proofs.lemmas.Str.{chars_past_char, chars-nil, length-encode, len_utf8_bounds}
use Rattle.std.specs.Option.{option_and_then, ok_or}
use Rattle.std.specs.Result.{result_ok}
use Rattle.std.specs.Char.{encode_utf8}
use Rattle.std.specs.Str.{chars, IsUtf8}
use Rattle.js_pattern.specs.Scan.{run, step, finish}
use Rattle.js_pattern.specs.declared.pattern.Mode.{Mode}
use Rattle.js_pattern.specs.declared.scanner.Scanner.{Scanner}

pub turns : (m : Mode) (s : Scanner) (c : ℕ) (front back : List ℕ) (r : Option Scanner) → IsUtf8 front → front ≡ encode_utf8 c ++ back →
    step m s c ≡ r → run m (chars front) s ≡ option_and_then (run m (chars back)) r
turns m s c front back r u e is =
    ap (λ t. run m t s) (chars_past_char front back c u e) ∙ ap (λ q. option_and_then (run m (chars back)) q) is

pub ends : (m : Mode) (s : Scanner) (text : List ℕ) → length text ≡ 0 → run m (chars text) s ≡ finish s
ends m s [] h = ap (λ t. run m t s) chars-nil
ends m s (c ∷ cs) h = absurd (omega arith)

pub one_more : (c : ℕ) → 1 ≤ length (encode_utf8 c)
one_more c = let b = len_utf8_bounds c in omega (arith, length-encode c, b.0)

pub ok_of : {X E : Type 0} (o : Option X) (e : E) → result_ok (ok_or o e) ≡ o
ok_of None e = refl
ok_of (Some x) e = refl
