-- One word, by its bytes.
use Rattle.std.proofs.Common.{◌≡◌, ◌↔◌, ◌<◌, ◌≤◌, List, [], ◌∷◌, length, get_or, Bool, sym, ◌∙◌, ap, arith, String, Global, string_bytes, codes, IsTrue}
use Rattle.std.specs.Str.{bytes_eq}
use Rattle.std.proofs.lemmas.Slice.Eq.{bytes_eq-Decides}
use Rattle.prepare_program.specs.Words.{IsPrepare}

pub prepare_word : (words : List (String Global)) (word : String Global) (same : Bool) → 1 ≤ length words → length words < 2
    → word ≡ get_or words 0 word → same ≡ bytes_eq (string_bytes word) (codes "prepare") → IsTrue same ↔ IsPrepare words
prepare_word [] word same some few is e = absurd (omega arith)
prepare_word (w ∷ []) word same some few is e =
    let bytes : string_bytes word ≡ string_bytes w = ap string_bytes is in
    let decides = bytes_eq-Decides (string_bytes word) (codes "prepare") in
    let to : IsTrue same → IsPrepare (w ∷ []) = λ h. ap (λ b. b ∷ []) (sym bytes ∙ decides.0 (sym e ∙ h)) in
    let back : IsPrepare (w ∷ []) → IsTrue same = λ p. let inner : string_bytes w ≡ codes "prepare" = cc p in e ∙ decides.1 (bytes ∙ inner) in
    (to, back)
prepare_word (w ∷ v ∷ ws) word same some few is e = absurd (omega arith)
