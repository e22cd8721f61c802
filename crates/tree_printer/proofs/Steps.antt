-- What is written step by step: what is out, and what is still to be written, are the whole.
use Rattle.std.proofs.Common.{◌≡◌, refl, sym, ap, ◌∙◌, ℕ, zero, suc, ◌+◌, ◌<◌, ◌≤◌, List, [], ◌∷◌, ◌++◌, length, drop, get_or, map, Bool, true, false, add-one, append_assoc, drop-cons}
use Rattle.std.specs.Prelude.{codes}
use Rattle.std.proofs.lemmas.List.{append-nil, drop_all}
use Rattle.js_term.specs.Term.{Text, flag}
use Rattle.print_layout.specs.Layout.{Printed, spread, separated, behind, template, in_parentheses}
use Rattle.tree_printer.specs.declared.piece.Piece.{Piece}
use Rattle.tree_printer.specs.declared.piece.Piece.TheVariants as piece
use Rattle.tree_printer.specs.Pieces.{pieces_of, said}

-- one more is written
more_written : (total out new left x later : Text) → out ++ left ≡ total → left ≡ x ++ later → new ≡ out ++ x → new ++ later ≡ total
more_written total out new left x later was cut is = ap (λ z. z ++ later) is ∙ (append_assoc out x later ∙ (ap (λ z. out ++ z) (sym cut) ∙ was))

-- nothing is left
all_written : (total out left : Text) → out ++ left ≡ total → left ≡ [] → out ≡ total
all_written total out left was none = sym (append-nil out) ∙ (ap (λ z. out ++ z) (sym none) ∙ was)

from_here : {A : Type 0} (xs : List A) (j : ℕ) (x : A) → j < length xs → x ≡ get_or xs j x → drop j xs ≡ x ∷ drop (suc j) xs
from_here xs j x h e = drop-cons xs j x h ∙ ap (λ y. y ∷ drop (suc j) xs) (sym e)

-- ---- rows

first_piece : (p : Piece) (ps : List Piece) (rs : List Printed) → spread (pieces_of (p ∷ ps)) rs ≡ said p rs ++ spread (pieces_of ps) rs
first_piece piece.Nothing ps rs = refl
first_piece (piece.Say x) ps rs = refl
first_piece (piece.Quoted x) ps rs = refl
first_piece (piece.Hashbang x) ps rs = refl
first_piece (piece.Flags flags) ps rs = refl
first_piece (piece.Part k) ps rs = refl
first_piece (piece.Each separator k) ps rs = refl
first_piece (piece.Heads m separator k) ps rs = refl
first_piece (piece.Past m separator k) ps rs = refl
first_piece (piece.Woven m k) ps rs = refl

pub next_piece : (total out new : Text) (ps : List Piece) (j : ℕ) (p : Piece) (rs : List Printed) → j < length ps → p ≡ get_or ps j p → out ++ spread (pieces_of (drop j ps)) rs ≡ total → new ≡ out ++ said p rs → new ++ spread (pieces_of (drop (j + 1) ps)) rs ≡ total
next_piece total out new ps j p rs h e was is =
    rw add-one (more_written total out new (spread (pieces_of (drop j ps)) rs) (said p rs) (spread (pieces_of (drop (suc j) ps)) rs) was (ap (λ qs. spread (pieces_of qs) rs) (from_here ps j p h e) ∙ first_piece p (drop (suc j) ps) rs) is)

pub last_piece : (total out : Text) (ps : List Piece) (j : ℕ) (rs : List Printed) → length ps ≤ j → out ++ spread (pieces_of (drop j ps)) rs ≡ total → out ≡ total
last_piece total out ps j rs h was = all_written total out (spread (pieces_of (drop j ps)) rs) was (ap (λ qs. spread (pieces_of qs) rs) (drop_all j ps h))

-- ---- items

-- the items from the one numbered so on
abbrev pub onward : ℕ → Text → List Text → Text
onward zero separator xs = separated separator xs
onward (suc j) separator xs = behind separator xs

abbrev pub is_later : ℕ → Bool
is_later zero = false
is_later (suc j) = true

next_text : (j : ℕ) (separator x : Text) (xs : List Text) → onward j separator (x ∷ xs) ≡ (flag (is_later j) separator ++ x) ++ behind separator xs
next_text zero separator x xs = refl
next_text (suc j) separator x xs = sym (append_assoc separator x (behind separator xs))

pub next_item : {A : Type 0} (F : A → Text) (total out middle new separator : Text) (xs : List A) (j : ℕ) (x : A) → j < length xs → x ≡ get_or xs j x → out ++ onward j separator (map F (drop j xs)) ≡ total → middle ≡ out ++ flag (is_later j) separator → new ≡ middle ++ F x → new ++ onward (j + 1) separator (map F (drop (j + 1) xs)) ≡ total
next_item F total out middle new separator xs j x h e was led is =
    rw add-one (more_written total out new (onward j separator (map F (drop j xs))) (flag (is_later j) separator ++ F x) (behind separator (map F (drop (suc j) xs))) was
    (ap (λ ys. onward j separator (map F ys)) (from_here xs j x h e) ∙ next_text j separator (F x) (map F (drop (suc j) xs)))
    (is ∙ (ap (λ z. z ++ F x) led ∙ append_assoc out (flag (is_later j) separator) (F x))))

no_items : (j : ℕ) (separator : Text) → onward j separator [] ≡ []
no_items zero separator = refl
no_items (suc j) separator = refl

pub last_item : {A : Type 0} (F : A → Text) (total out separator : Text) (xs : List A) (j : ℕ) → length xs ≤ j → out ++ onward j separator (map F (drop j xs)) ≡ total → out ≡ total
last_item F total out separator xs j h was = all_written total out (onward j separator (map F (drop j xs))) was (ap (λ ys. onward j separator (map F ys)) (drop_all j xs h) ∙ no_items j separator)

-- ---- templates

pub next_quasi : {A : Type 0} (F G : A → Text) (total out one two three new : Text) (qs es : List A) (j : ℕ) (q e : A) → j < length qs → q ≡ get_or qs j q → j < length es → e ≡ get_or es j e →
    out ++ template (map F (drop j qs)) (map G (drop j es)) ≡ total → one ≡ out ++ F q → two ≡ one ++ codes "${" → three ≡ two ++ G e → new ≡ three ++ codes "}" → new ++ template (map F (drop (j + 1) qs)) (map G (drop (j + 1) es)) ≡ total
next_quasi F G total out one two three new qs es j q e h hq k he was p r s t =
    rw add-one
    (let left = template (map F (drop (suc j) qs)) (map G (drop (suc j) es)) in
    ap (λ z. z ++ left) t ∙ (append_assoc three (codes "}") left ∙ (ap (λ z. z ++ (codes "}" ++ left)) s ∙ (append_assoc two (G e) (codes "}" ++ left) ∙ (ap (λ z. z ++ (G e ++ (codes "}" ++ left))) r
    ∙ (append_assoc one (codes "${") (G e ++ (codes "}" ++ left)) ∙ more_written total out one (template (map F (drop j qs)) (map G (drop j es))) (F q) (codes "${" ++ (G e ++ (codes "}" ++ left))) was
    (ap (λ ys. template (map F ys) (map G (drop j es))) (from_here qs j q h hq) ∙ ap (λ ys. template (F q ∷ map F (drop (suc j) qs)) (map G ys)) (from_here es j e k he)) p))))))

pub lone_quasi : {A : Type 0} (F G : A → Text) (total out new : Text) (qs es : List A) (j : ℕ) (q : A) → j < length qs → q ≡ get_or qs j q → length es ≤ j → out ++ template (map F (drop j qs)) (map G (drop j es)) ≡ total → new ≡ out ++ F q → new ≡ total
lone_quasi F G total out new qs es j q h hq k was is =
    is ∙ (ap (λ z. out ++ z) (sym (ap (λ ys. template (map F ys) (map G (drop j es))) (from_here qs j q h hq) ∙ ap (λ ys. template (F q ∷ map F (drop (suc j) qs)) (map G ys)) (drop_all j es k))) ∙ was)

pub no_quasi : {A : Type 0} (F G : A → Text) (total out : Text) (qs es : List A) (j : ℕ) → length qs ≤ j → out ++ template (map F (drop j qs)) (map G (drop j es)) ≡ total → out ≡ total
no_quasi F G total out qs es j h was = all_written total out (template (map F (drop j qs)) (map G (drop j es))) was (ap (λ ys. template (map F ys) (map G (drop j es))) (drop_all j qs h))

-- ---- parentheses

pub in_signs : (held : Bool) (out one two new x : Text) → one ≡ out ++ flag held (codes "(") → two ≡ one ++ x → new ≡ two ++ flag held (codes ")") → new ≡ out ++ in_parentheses held x
in_signs true out one two new x p q r =
    r ∙ (ap (λ z. z ++ codes ")") (q ∙ ap (λ z. z ++ x) p) ∙ (append_assoc (out ++ codes "(") x (codes ")") ∙ append_assoc out (codes "(") (x ++ codes ")")))
in_signs false out one two new x p q r =
    r ∙ (append-nil two ∙ (q ∙ ap (λ z. z ++ x) (p ∙ append-nil out)))
