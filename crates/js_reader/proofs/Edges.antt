-- The edge of parts is that of the last one.
use Rattle.std.proofs.Common.{◌≡◌, ◌≢◌, ◌≤◌, ◌<◌, ◌-◌, suc, true, false, Bool, not, ◌||◌, List, [], ◌∷◌, ◌++◌, map, length, get_or, refl, sym, ap, ◌∙◌, arith, codes}
use Rattle.std.specs.Prelude.{nat_eq, bit_and}
use denote.Param.Weighed.{most}
use Rattle.js_term.specs.Term.{Text, is_text, Term, absent, list, node, none, more, all, flag}
use Rattle.js_term.specs.declared.kind.Kind.{Kind}
use Rattle.js_chars.specs.declared.flags.RegExpFlags.{RegExpFlags}
use Rattle.js_syntax.specs.Edges.{edge, edge_last, edge_or_plain, declared_edge, field_edge, plain}
use Rattle.js_tree.specs.Parts.{kids}
use Rattle.js_tree.specs.TermOf.{by_form, term}
use Rattle.js_tree.specs.Words.{flags_word}
use Rattle.js_tree.specs.declared.node.Form.{Form}
use Rattle.js_tree.specs.declared.node.Form.TheVariants as form
use Rattle.js_tree.specs.declared.node.Node.{Node, size-Node}
use Rattle.js_tree.proofs.PartLaws.{kids_are_smaller}

-- ---- the letters of flags

any_letter : (d g i m s u v y : Bool) →
    not (is_text (flag d (codes "d") ++ flag g (codes "g") ++ flag i (codes "i") ++ flag m (codes "m") ++ flag s (codes "s") ++ flag u (codes "u") ++ flag v (codes "v") ++ flag y (codes "y")) [])
    ≡ (d || (g || (i || (m || (s || (u || (v || y)))))))
any_letter true g i m s u v y = refl
any_letter false true i m s u v y = refl
any_letter false false true m s u v y = refl
any_letter false false false true s u v y = refl
any_letter false false false false true u v y = refl
any_letter false false false false false true v y = refl
any_letter false false false false false false true y = refl
any_letter false false false false false false false true = refl
any_letter false false false false false false false false = refl

pub has_letters : (x : RegExpFlags) → not (is_text (flags_word x) []) ≡ (nat_eq (bit_and x.0 1) 1 || (nat_eq (bit_and x.0 2) 2 || (nat_eq (bit_and x.0 4) 4 || (nat_eq (bit_and x.0 8) 8 || (nat_eq (bit_and x.0 16) 16 || (nat_eq (bit_and x.0 32) 32 || (nat_eq (bit_and x.0 64) 64 || nat_eq (bit_and x.0 128) 128)))))))
has_letters x = any_letter (nat_eq (bit_and x.0 1) 1) (nat_eq (bit_and x.0 2) 2) (nat_eq (bit_and x.0 4) 4) (nat_eq (bit_and x.0 8) 8) (nat_eq (bit_and x.0 16) 16) (nat_eq (bit_and x.0 32) 32) (nat_eq (bit_and x.0 64) 64) (nat_eq (bit_and x.0 128) 128)

-- ---- the last part

last_edge : (ts : List Node) (x : Node) → 1 ≤ length ts → x ≡ get_or ts (length ts - 1) x → edge_last (all (map term ts)) ≡ edge (term x)
last_edge [] x h e = absurd (omega arith)
last_edge (y ∷ []) x h e = rw e refl
last_edge (y ∷ z ∷ ts) x h e =
    let n : length (y ∷ z ∷ ts) - 1 ≡ suc (length ts) = omega arith in
    let m : length (z ∷ ts) - 1 ≡ length ts = omega arith in
    last_edge (z ∷ ts) x (omega arith) (rw m (rw n at e))

pub no_edge : (ts : List Node) → length ts < 1 → edge_last (all (map term ts)) ≡ edge absent
no_edge [] h = refl
no_edge (t ∷ ts) h = absurd (omega arith)

in_last : (ts : List Node) (x : Node) → 1 ≤ length ts → x ≡ get_or ts (length ts - 1) x → size-Node x ≤ most size-Node ts
in_last [] x h e = absurd (omega arith)
in_last (y ∷ []) x h e = let d = ap size-Node e in omega arith
in_last (y ∷ z ∷ ts) x h e =
    let n : length (y ∷ z ∷ ts) - 1 ≡ suc (length ts) = omega arith in
    let m : length (z ∷ ts) - 1 ≡ length ts = omega arith in
    let d : size-Node x ≤ most size-Node (z ∷ ts) = in_last (z ∷ ts) x (omega arith) (rw m (rw n at e)) in omega arith

pub last_is_smaller : (n x : Node) (ts : List Node) → ts ≡ kids n → 1 ≤ length ts → x ≡ get_or ts (length ts - 1) x → size-Node x < size-Node n
last_is_smaller n x ts is h e = let k = ap (most size-Node) is in omega (arith, in_last ts x h e, kids_are_smaller n, k)

pub edge_of_last : (n x : Node) (ts : List Node) → ts ≡ kids n → 1 ≤ length ts → x ≡ get_or ts (length ts - 1) x → edge_last (all (map term (kids n))) ≡ edge (term x)
edge_of_last n x ts is h e = ap (λ (us : List Node). edge_last (all (map term us))) (sym is) ∙ last_edge ts x h e

-- ---- declarations

declared_skip : (d e : Term) (ds : List Term) → declared_edge (d ∷ e ∷ ds) ≡ declared_edge (e ∷ ds)
declared_skip absent e ds = refl
declared_skip (list ts) e ds = refl
declared_skip (node k xs none) e ds = refl
declared_skip (node k xs (more p none)) e ds = refl
declared_skip (node k xs (more p (more q none))) e ds = refl
declared_skip (node k xs (more p (more q (more r ts)))) e ds = refl

pub declared_last : (ts : List Node) (x : Node) → 1 ≤ length ts → x ≡ get_or ts (length ts - 1) x → declared_edge (term x ∷ []) ≡ declared_edge (map term ts)
declared_last [] x h e = absurd (omega arith)
declared_last (y ∷ []) x h e = rw (sym e) refl
declared_last (y ∷ z ∷ ts) x h e =
    let n : length (y ∷ z ∷ ts) - 1 ≡ suc (length ts) = omega arith in
    let m : length (z ∷ ts) - 1 ≡ length ts = omega arith in
    declared_last (z ∷ ts) x (omega arith) (rw m (rw n at e)) ∙ sym (declared_skip (term y) (term z) (map term ts))

pub declared_two : (k : Kind) (xs : List Text) (ts : List Node) (x : Node) → length ts ≡ 2 → x ≡ get_or ts 1 x → declared_edge (node k xs (all (map term ts)) ∷ []) ≡ edge_or_plain (term x)
declared_two k xs [] x h e = absurd (omega arith)
declared_two k xs (a ∷ []) x h e = absurd (omega arith)
declared_two k xs (a ∷ b ∷ []) x h e = rw e refl
declared_two k xs (a ∷ b ∷ c ∷ ts) x h e = absurd (omega arith)

pub declared_other : (k : Kind) (xs : List Text) (ts : List Node) → length ts ≢ 2 → plain ≡ declared_edge (node k xs (all (map term ts)) ∷ [])
declared_other k xs [] h = refl
declared_other k xs (a ∷ []) h = refl
declared_other k xs (a ∷ b ∷ []) h = absurd (h refl)
declared_other k xs (a ∷ b ∷ c ∷ ts) h = refl

-- ---- fields

pub field_with : (f : Form) (xs : List Text) (ts : List Node) (static : Text) (computed : Bool) (key : Term) → f ≢ form.Absent → field_edge static computed key (by_form f xs (all (map term ts))) ≡ edge (by_form f xs (all (map term ts)))
field_with form.Absent xs ts static computed key h = absurd (h refl)
field_with form.List xs ts static computed key h = refl
field_with (form.Node k) xs ts static computed key h = refl
