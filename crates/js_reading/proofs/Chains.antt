-- Lists that are read are listed.
use Rattle.std.proofs.Common.{◌≡◌, ℕ, zero, suc, Bool, true, false, if◌then◌else◌, List, [], ◌∷◌, ◌++◌, length, Some, refl, ◌∙◌, append_assoc, codes}
use Rattle.std.specs.Str.{IsUtf8}
use Rattle.js_term.specs.Term.{Text, Term}
use Rattle.js_syntax.specs.Tokens.{Sign}
use Rattle.js_syntax.specs.Spelling.{Sort, Item, Listed}
use Rattle.js_syntax.specs.Spelling as spell
use Rattle.js_tokens.specs.Next.{after}
use Rattle.js_reading.specs.Reading.{Reading, sees, separated, items, group}
use Rattle.js_reading.proofs.Each.{Each, each_none, each_some, each_bind, each_weaker, each_if, seen}

-- ---- items of a sort, none of which is settled later

-- what is read behind what was found
pub record GivesListed (s : Sort) (found es : List Term) (a b : Text) : Type 0 where
  pub new : List Term
  pub whole : es ≡ found ++ new
  pub listed : Listed s new a b

module _ (s : Sort) (item : Text → Reading Term) (each : (a : Text) → IsUtf8 a → Each (λ x b. Item s x a b) (item a)) where
  pub separated_each : (n : ℕ) (found : List Term) (a : Text) → IsUtf8 a → Each (λ xs b. GivesListed s found xs a b) (separated item n found a)
  unfolding separated
  separated_each zero found a u = each_none
  separated_each (suc n) found a u = each_bind _ (each a u) (λ x b v p.
      each_if (sees (codes ",") b) _ _
      (λ is. let t = seen (codes ",") b v is in each_weaker (separated_each n (found ++ x ∷ []) (after b) t.utf8) (λ xs d rest. record {
        new = x ∷ rest.new;
        whole = rest.whole ∙ append_assoc found (x ∷ []) rest.new;
        listed = spell.and p t.token rest.listed;
      }))
      (λ _. each_some _ _ v (record { new = x ∷ []; whole = refl; listed = spell.last p })))

-- ---- items of whatever sort

-- one or more, with commas between
pub data Chain {A : Type 0} (P : A → Text → Text → Type 0) : List A → Text → Text → Type 0 where
  only : {x : A} {a b : Text} → P x a b → Chain P (x ∷ []) a b
  link : {x : A} {xs : List A} {a b c d : Text} → P x a b → Sign (codes ",") b c → Chain P xs c d → Chain P (x ∷ xs) a d

-- none, or such a list, and whether a comma stands behind
pub data Held {A : Type 0} (P : A → Text → Text → Type 0) : List A → Bool → Text → Text → Type 0 where
  held_none : {a : Text} → Held P [] false a a
  held_some : {xs : List A} {a b : Text} → sees (codes ",") b ≡ false → Chain P xs a b → Held P xs false a b
  held_comma : {xs : List A} {a b c : Text} → Chain P xs a b → Sign (codes ",") b c → Held P xs true a c

module _ {A : Type 0} (P : A → Text → Text → Type 0) where
  abbrev pub Ends : List A → Bool → Text → Text → Type 0
  Ends xs false a b = (sees (codes ",") b ≡ false) × Chain P xs a b
  Ends xs true a b = (c : Text) × Chain P xs a c × Sign (codes ",") c b

  pub record GivesChain (found xs : List A) (comma : Bool) (a b : Text) : Type 0 where
    pub new : List A
    pub whole : xs ≡ found ++ new
    pub ends : Ends new comma a b

  longer : (x : A) (xs : List A) (comma : Bool) (a b c d : Text) → P x a b → Sign (codes ",") b c → Ends xs comma c d → Ends (x ∷ xs) comma a d
  longer x xs false a b c d p tok (stops, y) = (stops, link p tok y)
  longer x xs true a b c d p tok (f, y, tok') = (f, link p tok y, tok')

  module _ (item : Text → Reading A) (each : (a : Text) → IsUtf8 a → Each (λ x b. P x a b) (item a)) where
    items_each : (close : Text) (n : ℕ) (found : List A) (a : Text) → IsUtf8 a → Each (λ x b. GivesChain found x.0 x.1 a b) (items item close n found a)
    unfolding items
    items_each close zero found a u = each_none
    items_each close (suc n) found a u = each_bind _ (each a u) (λ x b v p. turn (λ fs c w. items_each close n fs c w) x b v p (sees (codes ",") b) refl)
      where
        turn : ((fs : List A) (c : Text) → IsUtf8 c → Each (λ y d. GivesChain fs y.0 y.1 c d) (items item close n fs c)) → (x : A) (b : Text) → IsUtf8 b → P x a b → (k : Bool) → sees (codes ",") b ≡ k →
            Each (λ y c. GivesChain found y.0 y.1 a c) (if k then (if sees close (after b) then Some ((found ++ x ∷ [], true), after b) else items item close n (found ++ x ∷ []) (after b)) else Some ((found ++ x ∷ [], false), b))
        turn again x b v p true is = let t = seen (codes ",") b v is in
            each_if (sees close (after b)) _ _
            (λ _. each_some _ _ t.utf8 (record { new = x ∷ []; whole = refl; ends = (b, only p, t.token) }))
            (λ _. each_weaker (again (found ++ x ∷ []) (after b) t.utf8) (λ (xs, comma) d rest. record {
              new = x ∷ rest.new;
              whole = rest.whole ∙ append_assoc found (x ∷ []) rest.new;
              ends = longer x rest.new comma a b (after b) d p t.token rest.ends;
            }))
        turn again x b v p false is = each_some _ _ v (record { new = x ∷ []; whole = refl; ends = (is, only p) })

    pub group_each : (close a : Text) → IsUtf8 a → Each (λ x b. Held P x.0 x.1 a b) (group item close a)
    unfolding group
    group_each close a u = each_if (sees close a) _ _
        (λ _. each_some _ _ u held_none)
        (λ _. each_weaker (items_each close (length a) [] a u) (λ (xs, comma') b x. rw (x.whole) (ended comma' x.new b x.ends)))
      where
        ended : (c : Bool) (xs : List A) (b : Text) → Ends xs c a b → Held P xs c a b
        ended false xs b (stops, x) = held_some stops x
        ended true xs b (c, x, tok) = held_comma x tok
