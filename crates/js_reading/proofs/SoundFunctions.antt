-- Functions that are read are spelled.
use Rattle.std.proofs.Common.{◌≡◌, ℕ, zero, suc, Bool, true, false, not, ◌&&◌, List, [], ◌∷◌, ◌++◌, length, Option, Some, None, refl, sym, subst, ◌∙◌, append_assoc, append-nil, codes}
use Rattle.std.specs.Str.{IsUtf8}
use Rattle.js_term.specs.Term.{Text, Term, absent}
use Rattle.js_term.specs.declared.kind.Kind.{Kind}
use Rattle.js_term.specs.Lexeme.{is_reserved}
use Rattle.js_syntax.specs.Nodes.{of_text, parameter_of}
use Rattle.js_syntax.specs.Tokens.{Lexeme, word, private_name, number, big_integer, string, no_substitution, template_head, sign, regexp, template_middle, template_tail, Token, Word, Sign}
use Rattle.js_syntax.specs.Edges.{full}
use Rattle.js_syntax.specs.Spelling.{Stands, Item, Listed, Rested, Rest, Async, Star, Naming, Semicolon, Pattern, Parameters, Body, Directives, Statements, FunctionText, MethodFunction}
use Rattle.js_syntax.specs.Spelling as spell
use Rattle.js_tokens.specs.Next.{lexeme, after}
use Rattle.js_reading.specs.declared.goal.Goal.{Goal}
use Rattle.js_reading.specs.declared.goal.Goal.TheVariants as goal
use Rattle.js_reading.specs.Reading.{Found, Reading, either, sees}
use Rattle.js_reading.specs.Functions.{star, naming_by, naming, Parameters as Listing, directive_by, directives, bound, initializer, parameter, parameter_items, parameter_list, parameters, statements, enclosed, body, function, method_function}
use Rattle.js_reading.proofs.Each.{Each, each_none, each_some, each_bind, each_weaker, each_if, there, seen, expect_each, semicolon_each}
use Rattle.js_reading.proofs.ArrowParameters.{parameters_present}
use Rattle.js_reading.proofs.SoundParts.{Good, part_each}
use Rattle.js_reading.proofs.Directing.{apart}

pub star_each : (a : Text) → IsUtf8 a → Each (λ s b. Star s a b) (star a)
unfolding star
star_each a u = each_if (sees (codes "*") a) _ _ (λ is. let t = seen (codes "*") a u is in each_some _ _ t.utf8 (spell.with_star t.token)) (λ _. each_some _ _ u spell.no_star)

pub naming_each : (a : Text) → IsUtf8 a → Each (λ id b. Naming id a b) (naming a)
unfolding naming
naming_each a u = go (lexeme a) refl
  where
    go : (o : Option Lexeme) → lexeme a ≡ o → Each (λ id b. Naming id a b) (naming_by o a)
    go (Some (word x)) is = each_if (is_reserved x) _ _ (λ _. each_some _ _ u spell.unnamed) (λ free. let t = there a u _ is in each_some _ _ t.utf8 (spell.named free t.token))
    go None is = each_some _ _ u spell.unnamed
    go (Some (private_name x)) is = each_some _ _ u spell.unnamed
    go (Some (number x)) is = each_some _ _ u spell.unnamed
    go (Some (big_integer x)) is = each_some _ _ u spell.unnamed
    go (Some (string x v)) is = each_some _ _ u spell.unnamed
    go (Some (regexp x v)) is = each_some _ _ u spell.unnamed
    go (Some (no_substitution x)) is = each_some _ _ u spell.unnamed
    go (Some (template_head x)) is = each_some _ _ u spell.unnamed
    go (Some (template_middle x)) is = each_some _ _ u spell.unnamed
    go (Some (template_tail x)) is = each_some _ _ u spell.unnamed
    go (Some (sign x)) is = each_some _ _ u spell.unnamed

-- = e, or nothing
pub data Initial (i : Bool) : Term → Text → Text → Type 0 where
  no_initial : {a : Text} → Initial i absent a a
  initial : {n : ℕ} {e : Term} {a b c : Text} → Sign (codes "=") a b → Stands i n e b c → Initial i e a c

pub with_initializer : {p e : Term} {a b c : Text} → Pattern p a b → Initial true e b c → Item spell.parameter (parameter_of p e) a c
with_initializer x no_initial = spell.a_parameter x
with_initializer x (initial tok s) = spell.an_optional_parameter x tok s

-- how a list of parameters ends; the flag says that a comma stands behind
data Ended : List Term → Term → Bool → Text → Text → Type 0 where
  ended : {ps : List Term} {a b : Text} → Listed spell.parameter ps a b → Ended ps absent false a b
  ended_comma : {ps : List Term} {a b c : Text} → Listed spell.parameter ps a b → Sign (codes ",") b c → Ended ps absent true a c
  ended_rest : {r : Term} {a b : Text} → Rest spell.parameter r a b → Ended [] r false a b
  ended_both : {ps : List Term} {r : Term} {a b c d : Text} → Listed spell.parameter ps a b → Sign (codes ",") b c → Rest spell.parameter r c d → Ended ps r false a d

more_ended : {p : Term} {ps : List Term} {r : Term} {k : Bool} {a b c d : Text} → Item spell.parameter p a b → Sign (codes ",") b c → Ended ps r k c d → Ended (p ∷ ps) r k a d
more_ended x tok (ended l) = ended (spell.and x tok l)
more_ended x tok (ended_comma l tok') = ended_comma (spell.and x tok l) tok'
more_ended x tok (ended_rest y) = ended_both (spell.last x) tok y
more_ended x tok (ended_both l tok' y) = ended_both (spell.and x tok l) tok' y

ended_rested : (t : Bool) {ps : List Term} {r : Term} {k : Bool} {a b : Text} → Ended ps r k a b → k && not t ≡ false → Rested t spell.parameter ps r a b
ended_rested true (ended l) h = spell.no_rest (spell.items (parameters_present l) l)
ended_rested false (ended l) h = spell.no_rest_closed (parameters_present l) l
ended_rested true (ended_comma l tok) h = spell.no_rest (spell.trailing l tok)
ended_rested false (ended_comma l tok) h = absurd (cc)
ended_rested t (ended_rest x) h = spell.rest_alone x
ended_rested t (ended_both l tok x) h = spell.and_rest l tok x

record GivesParameters (found : List Term) (x : Listing) (a b : Text) : Type 0 where
  new : List Term
  whole : x.items ≡ found ++ new
  ends : Ended new x.rest x.comma a b

record FitsParameters (x : Listing) (a b : Text) : Type 0 where
  fits : (t : Bool) → x.comma && not t ≡ false → Rested t spell.parameter x.items x.rest a b

no_parameters : (t : Bool) (a : Text) → Rested t spell.parameter [] absent a a
no_parameters true a = spell.no_rest spell.no_items
no_parameters false a = spell.nothing

-- ---- directives

record GivesDirectives (found ds : List Term) (a b : Text) : Type 0 where
  new : List Term
  whole : ds ≡ found ++ new
  stand : Directives new a b
  ends : directive_by (lexeme b) (after b) ≡ None

pub record Directed (raw a b : Text) : Type 0 where
  pub value : Text
  pub middle : Text
  pub token : Token a (string raw value) middle
  pub end : Semicolon full middle b

pub directive_each : (a : Text) → IsUtf8 a → Each (λ raw b. Directed raw a b) (directive_by (lexeme a) (after a))
directive_each a u = go (lexeme a) refl
  where
    go : (o : Option Lexeme) → lexeme a ≡ o → Each (λ raw b. Directed raw a b) (directive_by o (after a))
    go (Some (string raw v)) is = let t = there a u _ is in each_bind _ (semicolon_each full (after a) t.utf8) (λ _ c w end. each_some raw c w (record { value = v; middle = after a; token = t.token; end = end }))
    go None is = each_none
    go (Some (word x)) is = each_none
    go (Some (private_name x)) is = each_none
    go (Some (number x)) is = each_none
    go (Some (big_integer x)) is = each_none
    go (Some (regexp x v)) is = each_none
    go (Some (no_substitution x)) is = each_none
    go (Some (template_head x)) is = each_none
    go (Some (template_middle x)) is = each_none
    go (Some (template_tail x)) is = each_none
    go (Some (sign x)) is = each_none

directives_each : (n : ℕ) (found : List Term) (a : Text) → IsUtf8 a → Each (λ ds b. GivesDirectives found ds a b) (directives n found a)
unfolding directives
directives_each zero found a u = each_none
directives_each (suc n) found a u = turn (λ fs c w. directives_each n fs c w) (directive_by (lexeme a) (after a)) refl (directive_each a u)
  where
    turn : ((fs : List Term) (c : Text) → IsUtf8 c → Each (λ ds b. GivesDirectives fs ds c b) (directives n fs c)) → (r : Reading Text) → directive_by (lexeme a) (after a) ≡ r → Each (λ raw b. Directed raw a b) r →
        Each (λ ds b. GivesDirectives found ds a b) (either r (Some (found, a)) (λ raw b. directives n (found ++ of_text Kind.Directive raw ∷ []) b))
    turn again None is each = each_some found a u (record { new = []; whole = sym (append-nil found); stand = spell.no_directives; ends = is })
    turn again (Some p) is each = let x = each.holds p.0 p.1 refl in
        each_weaker (again (found ++ of_text Kind.Directive p.0 ∷ []) p.1 (each.utf8 p.0 p.1 refl)) (λ ds b rest. record {
          new = of_text Kind.Directive p.0 ∷ rest.new;
          whole = rest.whole ∙ append_assoc found (of_text Kind.Directive p.0 ∷ []) rest.new;
          stand = spell.directive x.token x.end rest.stand;
          ends = rest.ends;
        })

-- directives up to where there are no more
pub record Directing (ds : List Term) (a b : Text) : Type 0 where
  pub stand : Directives ds a b
  pub ends : directive_by (lexeme b) (after b) ≡ None

pub all_directives : (n : ℕ) (a : Text) → IsUtf8 a → Each (λ ds b. Directing ds a b) (directives n [] a)
all_directives n a u = each_weaker (directives_each n [] a u) (λ ds b x. record { stand = subst (λ (z : List Term). Directives z a b) (sym x.whole) x.stand; ends = x.ends })

pub record GivesStatements (found ss : List Term) (a b : Text) : Type 0 where
  pub new : List Term
  pub whole : ss ≡ found ++ new
  pub stand : Statements new a b

-- statements, and the brace behind them
pub record Enclosed (ss : List Term) (a b : Text) : Type 0 where
  pub rest : Text
  pub stand : Statements ss a rest
  pub close : Sign (codes "}") rest b

module _ (sub : Goal → Text → Reading Found) (good : Good sub) where
  pub bound_each : (a : Text) → IsUtf8 a → Each (λ p b. Pattern p a b) (bound sub a)
  unfolding bound
  bound_each a u = each_bind _ (good goal.Pattern a u) (λ f b v x. each_some f.tree b v x)

  pub initializer_each : (i : Bool) (a : Text) → IsUtf8 a → Each (λ e b. Initial i e a b) (initializer sub i a)
  unfolding initializer
  initializer_each i a u = each_if (sees (codes "=") a) _ _
      (λ is. let t = seen (codes "=") a u is in each_weaker (part_each sub good 2 i (after a) t.utf8) (λ e b x. initial t.token x.stands))
      (λ _. each_some absent a u no_initial)

  parameter_each : (a : Text) → IsUtf8 a → Each (λ p b. Item spell.parameter p a b) (parameter sub a)
  unfolding parameter
  parameter_each a u = each_bind _ (bound_each a u) (λ p b v x. each_bind _ (initializer_each true b v) (λ e c w y. each_some _ _ w (with_initializer x y)))

  parameter_items_each : (n : ℕ) (found : List Term) (a : Text) → IsUtf8 a → Each (λ x b. GivesParameters found x a b) (parameter_items sub n found a)
  unfolding parameter_items
  parameter_items_each zero found a u = each_none
  parameter_items_each (suc n) found a u = each_if (sees (codes "...") a) _ _
      (λ is. let t = seen (codes "...") a u is in each_bind _ (bound_each (after a) t.utf8) (λ p b v x. each_some _ _ v (record { new = []; whole = sym (append-nil found); ends = ended_rest (spell.rest_parameter t.token x) })))
      (λ _. each_bind _ (parameter_each a u) (λ p b v x. each_if (sees (codes ",") b) _ _
      (λ is. let t = seen (codes ",") b v is in each_if (sees (codes ")") (after b)) _ _
      (λ _. each_some _ _ t.utf8 (record { new = p ∷ []; whole = refl; ends = ended_comma (spell.last x) t.token }))
      (λ _. each_weaker (parameter_items_each n (found ++ p ∷ []) (after b) t.utf8) (λ y c rest. record { new = p ∷ rest.new; whole = rest.whole ∙ append_assoc found (p ∷ []) rest.new; ends = more_ended x t.token rest.ends })))
      (λ _. each_some _ _ v (record { new = p ∷ []; whole = refl; ends = ended (spell.last x) }))))

  parameter_list_each : (a : Text) → IsUtf8 a → Each (λ x b. FitsParameters x a b) (parameter_list sub a)
  unfolding parameter_list
  parameter_list_each a u = each_if (sees (codes ")") a) _ _
      (λ _. each_some _ _ u (record { fits = λ t h. no_parameters t a }))
      (λ _. each_weaker (parameter_items_each (length a) [] a u) (λ x b y. record { fits = λ t h. subst (λ (z : List Term). Rested t spell.parameter z x.rest a b) (sym y.whole) (ended_rested t y.ends h) }))

  pub parameters_each : (t : Bool) (a : Text) → IsUtf8 a → Each (λ ps b. Parameters t ps a b) (parameters sub t a)
  unfolding parameters
  parameters_each t a u =
      each_bind _ (expect_each (codes "(") a u) (λ _ b v open'.
      each_bind _ (parameter_list_each b v) (λ found c w x.
      each_bind _ (expect_each (codes ")") c w) (λ _ d y close.
      each_if (found.comma && not t) _ _ (λ _. each_none) (λ h. each_some _ _ y (spell.parameters open' (x.fits t h) close)))))

  statements_each : (n : ℕ) (found : List Term) (a : Text) → IsUtf8 a → Each (λ ss b. GivesStatements found ss a b) (statements sub n found a)
  unfolding statements
  statements_each zero found a u = each_none
  statements_each (suc n) found a u = each_if (sees (codes "}") a) _ _
      (λ _. each_some found a u (record { new = []; whole = sym (append-nil found); stand = spell.no_statements }))
      (λ _. each_bind _ (good goal.Statement a u) (λ f b v x. each_weaker (statements_each n (found ++ f.tree ∷ []) b v) (λ ss c rest. record {
        new = f.tree ∷ rest.new;
        whole = rest.whole ∙ append_assoc found (f.tree ∷ []) rest.new;
        stand = spell.next_statement x rest.stand;
      })))

  pub enclosed_each : (a : Text) → IsUtf8 a → Each (λ ss b. Enclosed ss a b) (enclosed sub a)
  unfolding enclosed
  enclosed_each a u =
      each_bind _ (statements_each (length a) [] a u) (λ ss b v x.
      each_bind _ (expect_each (codes "}") b v) (λ _ c w close. each_some ss c w (record { rest = b; stand = subst (λ (z : List Term). Statements z a b) (sym x.whole) x.stand; close = close })))

  pub body_each : (a : Text) → IsUtf8 a → Each (λ t b. Body t a b) (body sub a)
  unfolding body
  body_each a u =
      each_bind _ (expect_each (codes "{") a u) (λ _ b v open'.
      each_bind _ (all_directives (suc (length b)) b v) (λ ds c w x.
      each_bind _ (enclosed_each c w) (λ ss d y z. each_some _ _ y (spell.body (apart c z.rest ss w x.ends z.stand) open' x.stand z.stand z.close))))

  -- behind `function`
  pub function_each : (k : Kind) (async a b c : Text) → IsUtf8 c → Async async a b → Word (codes "function") b c → Each (λ f d. FunctionText k f a d) (function sub k async c)
  unfolding function
  function_each k async a b c u mark tok =
      each_bind _ (star_each c u) (λ s d v x.
      each_bind _ (naming_each d v) (λ id e w y.
      each_bind _ (parameters_each true e w) (λ ps f z q.
      each_bind _ (body_each f z) (λ t g o r. each_some _ _ o (spell.function mark tok x y q r)))))

  pub method_function_each : (t : Bool) (async s a : Text) → IsUtf8 a → Each (λ f b. MethodFunction t async s f a b) (method_function sub t async s a)
  unfolding method_function
  method_function_each t async s a u =
      each_bind _ (parameters_each t a u) (λ ps b v x. each_bind _ (body_each b v) (λ y c w z. each_some _ _ w (spell.method_function x z)))
