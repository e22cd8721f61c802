-- Arrays, objects and classes that are read are spelled, or may become targets.
use Rattle.std.proofs.Common.{◌≡◌, ℕ, zero, suc, Bool, true, false, ◌&&◌, ◌||◌, List, [], ◌∷◌, ◌++◌, length, Option, Some, None, refl, sym, subst, ◌∙◌, append_assoc, append-nil, codes}
use Rattle.std.specs.Str.{IsUtf8}
use Rattle.std.proofs.lemmas.Bool.{and_parts}
use Rattle.js_term.specs.Term.{Text, is_text, Term, absent}
use Rattle.js_term.specs.declared.kind.Kind.{Kind}
use Rattle.js_term.specs.Lexeme.{is_reserved}
use Rattle.js_term.specs.Node.{name_of}
use Rattle.js_syntax.specs.Nodes.{property, method_node}
use Rattle.js_syntax.specs.Tokens.{Lexeme, word, private_name, number, big_integer, string, no_substitution, template_head, sign, regexp, template_middle, template_tail, Word, Sign}
use Rattle.js_syntax.specs.Edges.{no_private, is_constructor, field_edge}
use Rattle.js_syntax.specs.Spelling.{Stands, Item, Async, Star, Static, Key, MemberKey, Method, Accessor, MethodFunction, Initializer, Heritage, Elements, ClassElement, ClassText}
use Rattle.js_syntax.specs.Spelling as spell
use Rattle.js_syntax.proofs.Fronts.{same_text}
use Rattle.js_tokens.specs.Next.{lexeme, after}
use Rattle.js_reading.specs.declared.goal.Goal.{Goal}
use Rattle.js_reading.specs.declared.goal.Goal.TheVariants as goal
use Rattle.js_reading.specs.Reading.{Found, Reading, ◌>>=◌, sees, sees_word, same_line, begins_key_at}
use Rattle.js_reading.specs.Targets.{target_property}
use Rattle.js_reading.specs.Parts.{Key as Keyed, key, element}
use Rattle.js_reading.specs.Literals.{modifies_method, modifies_element, is_accessor, takes_comma, array, marked_method, accessor_property, valued, behind_key, shorthand, named_property, property_by, property_item, object, heritage, element_function, method_kind, field, plain_element, word_element, element_by, marked_element, static_block, static_element, class_element, elements, class}
use Rattle.js_reading.proofs.Each.{Each, each_none, each_some, each_bind, each_weaker, each_if, or_cases, there, seen, seen_word, on_same_line, expect_each, semicolon_each}
use Rattle.js_reading.proofs.Chains.{group_each}
use Rattle.js_reading.proofs.Covers.{Covers, Raw, RawProperty, raw_pair, raw_function, raw_short, raw_default, raw_rest, array_covers, object_covers}
use Rattle.js_reading.proofs.SoundParts.{Good, part_each, spread_each, element_each, key_each, member_key_each}
use Rattle.js_reading.proofs.SoundFunctions.{Initial, no_initial, initial, star_each, naming_each, initializer_each, enclosed_each, method_function_each}

-- an expression is no private name
public_stands : {i : Bool} {n : ℕ} {e : Term} {a b : Text} → Stands i n e a b → no_private e ≡ true
public_stands (spell.identifier free tok) = refl
public_stands (spell.this_expression w) = refl
public_stands (spell.null_literal w) = refl
public_stands (spell.boolean v w) = refl
public_stands (spell.numeric w) = refl
public_stands (spell.bigint w) = refl
public_stands (spell.string_literal w) = refl
public_stands (spell.regexp_literal w) = refl
public_stands (spell.template t) = refl
public_stands (spell.array y g z) = refl
public_stands (spell.object y g z) = refl
public_stands (spell.function_expression (spell.function p w s id ps t)) = refl
public_stands (spell.class_expression (spell.class w id q y es z)) = refl
public_stands (spell.parenthesized y e z) = refl
public_stands (spell.import_meta w y z) = refl
public_stands (spell.new_target w y z) = refl
public_stands (spell.member q o (spell.static_access d w)) = refl
public_stands (spell.member q o (spell.computed_access d y e z)) = refl
public_stands (spell.member q o (spell.private_access d w)) = refl
public_stands (spell.super_member w (spell.static_access d v) p) = refl
public_stands (spell.super_member w (spell.computed_access d y e z) p) = refl
public_stands (spell.super_member w (spell.private_access d v) p) = refl
public_stands (spell.tagged q t y) = refl
public_stands (spell.construction w q f es) = refl
public_stands (spell.bare_construction (spell.new_member w q f)) = refl
public_stands (spell.bare_construction (spell.new_new w f)) = refl
public_stands (spell.call q f es) = refl
public_stands (spell.super_call w es) = refl
public_stands (spell.import_call w y e o z) = refl
public_stands (spell.chain s) = refl
public_stands (spell.update_behind p q t l y) = refl
public_stands (spell.update_before p q y t) = refl
public_stands (spell.unary p q y e) = refl
public_stands (spell.await_expression p w e) = refl
public_stands (spell.exponentiation p q l y r) = refl
public_stands (spell.binary p q s t l y r) = refl
public_stands (spell.private_in p w y r) = refl
public_stands (spell.conjunction p q l y r) = refl
public_stands (spell.disjunction p q l y r) = refl
public_stands (spell.coalescing p q l y r) = refl
public_stands (spell.conditional p t y e z f) = refl
public_stands (spell.assignment p q t y e) = refl
public_stands (spell.arrow ps l y t) = refl
public_stands (spell.bare_yield w) = refl
public_stands (spell.yielding w l e) = refl
public_stands (spell.delegating w l y e) = refl

key_public : {computed : Bool} {k : Term} {a b : Text} → Key computed k a b → no_private k ≡ true
key_public (spell.name_key tok) = refl
key_public (spell.string_key tok) = refl
key_public (spell.number_key tok) = refl
key_public (spell.bigint_key tok) = refl
key_public (spell.computed_key x e y) = public_stands e

-- a function is no target
method_no_target : {t : Bool} {async s : Text} {f : Term} {a b : Text} (kind : Text) (mark computed : Bool) (k : Term) → MethodFunction t async s f a b → target_property (property kind mark false computed k f) ≡ None
method_no_target kind mark computed k (spell.method_function x y) = refl

accessor_cases : (P : Text → Type 0) (x : Text) → is_accessor x ≡ true → P (codes "get") → P (codes "set") → P x
accessor_cases P x h p q = or_cases (is_text x (codes "get")) (is_text x (codes "set") || false) h
    (λ e. subst P (sym (same_text x (codes "get") e)) p)
    (λ h. or_cases (is_text x (codes "set")) false h (λ e. subst P (sym (same_text x (codes "set") e)) q) (λ e. absurd (cc)))

-- a word that is this text
pub as_word : {x a b : Text} (y : Text) → is_text x y ≡ true → Word x a b → Word y a b
as_word {x} {a} {b} y e tok = subst (λ (z : Text). Word z a b) (same_text x y e) tok

pub as_sign : {x a b : Text} (y : Text) → is_text x y ≡ true → Sign x a b → Sign y a b
as_sign {x} {a} {b} y e tok = subst (λ (z : Text). Sign z a b) (same_text x y e) tok

initial_initializer : {e : Term} {a b : Text} → Initial true e a b → Initializer e a b
initial_initializer no_initial = spell.no_initializer
initial_initializer (initial tok s) = spell.initializer tok s

-- the function behind a key, by its mark
abbrev Marks : Text → Text → Text → Text → Type 0
Marks async s a b = (c : Text) × Async async a c × Star s c b

pub record GivesElements (found es : List Term) (a b : Text) : Type 0 where
  pub new : List Term
  pub whole : es ≡ found ++ new
  pub stand : Elements new a b

module _ (sub : Goal → Text → Reading Found) (good : Good sub) where
  -- behind `[`
  pub array_each : {i : Bool} (a b : Text) → IsUtf8 b → Sign (codes "[") a b → Each (λ f c. Covers i 0 f a c) (array sub b)
  unfolding array
  array_each a b u open' =
      each_bind _ (group_each (Raw true) (element sub) (element_each sub good) (codes "]") b u) (λ found c v x.
      each_bind _ (expect_each (codes "]") c v) (λ _ d w close. each_some _ _ w (array_covers open' x close)))

  marked_method_each : (async s a b : Text) → IsUtf8 b → Marks async s a b → Each (λ f c. RawProperty f a c) (marked_method sub async s b)
  unfolding marked_method
  marked_method_each async s a b u (m, mark, star') =
      each_bind _ (key_each sub good b u) (λ k c v x.
      each_bind _ (method_function_each sub good true async s c v) (λ f d w y.
      each_some _ _ w (raw_function (spell.a_method (spell.method mark star' (spell.public_key x) y) (key_public x)) refl (method_no_target (codes "init") true k.0 k.1 y))))

  accessor_each : (kind a b : Text) → IsUtf8 b → is_accessor kind ≡ true → Word kind a b → Each (λ f c. RawProperty f a c) (accessor_property sub kind b)
  unfolding accessor_property
  accessor_each kind a b u is = accessor_cases (λ kind. Word kind a b → Each (λ f c. RawProperty f a c) (accessor_property sub kind b)) kind is
      (λ tok. each_bind _ (key_each sub good b u) (λ k c v x. each_bind _ (method_function_each sub good true [] [] c v) (λ f d w y.
      each_some _ _ w (raw_function (spell.an_accessor (spell.getter tok (spell.public_key x) y) (key_public x)) refl (method_no_target (codes "get") false k.0 k.1 y)))))
      (λ tok. each_bind _ (key_each sub good b u) (λ k c v x. each_bind _ (method_function_each sub good false [] [] c v) (λ f d w y.
      each_some _ _ w (raw_function (spell.an_accessor (spell.setter tok (spell.public_key x) y) (key_public x)) refl (method_no_target (codes "set") false k.0 k.1 y)))))

  behind_key_each : (k : Keyed) (a b : Text) → IsUtf8 b → Key k.0 k.1 a b → Each (λ f c. RawProperty f a c) (behind_key sub k b)
  unfolding behind_key valued
  behind_key_each k a b u x = each_if (sees (codes ":") b) _ _
      (λ is. let t = seen (codes ":") b u is in each_bind _ (good (goal.Expression 2 true) (after b) t.utf8) (λ f c v y. each_some _ _ v (raw_pair x t.token y)))
      (λ _. each_bind _ (method_function_each sub good true [] [] b u) (λ f c v y.
      each_some _ _ v (raw_function (spell.a_method (spell.method spell.no_async spell.no_star (spell.public_key x) y) (key_public x)) refl (method_no_target (codes "init") true k.0 k.1 y))))

  shorthand_each : (x a b : Text) → IsUtf8 b → Word x a b → Each (λ f c. RawProperty f a c) (shorthand sub x b)
  unfolding shorthand
  shorthand_each x a b u tok = each_if (is_reserved x) _ _ (λ _. each_none) (λ free. each_if (sees (codes "=") b) _ _
      (λ is. let t = seen (codes "=") b u is in each_bind _ (part_each sub good 2 true (after b) t.utf8) (λ e c v y. each_some _ _ v (raw_default free tok t.token y.stands)))
      (λ _. each_some _ _ u (raw_short free tok)))

  named_property_each : (x a b : Text) → IsUtf8 b → Word x a b → Each (λ f c. RawProperty f a c) (named_property sub x b)
  unfolding named_property modifies_method
  named_property_each x a b u tok = each_if (is_text x (codes "async") && modifies_method b) _ _
      (λ h. let (is, on) = and_parts (is_text x (codes "async")) (modifies_method b) h in
      let (line, more') = and_parts (same_line b) (begins_key_at b || sees (codes "*") b) on in
      each_bind _ (star_each b u) (λ s c v y. marked_method_each (codes "async") s a c v (b, spell.with_async (as_word (codes "async") is tok) (on_same_line b line), y)))
      (λ _. each_if (is_accessor x && begins_key_at b) _ _
      (λ h. accessor_each x a b u (and_parts (is_accessor x) (begins_key_at b) h).0 tok)
      (λ _. each_if (sees (codes ":") b || sees (codes "(") b) _ _
      (λ _. behind_key_each (false, name_of x) a b u (spell.name_key tok))
      (λ _. shorthand_each x a b u tok)))

  keyed_each : (a : Text) → IsUtf8 a → Each (λ f c. RawProperty f a c) (key sub a >>= behind_key sub)
  keyed_each a u = each_bind _ (key_each sub good a u) (λ k b v x. behind_key_each k a b v x)

  property_each : (a : Text) → IsUtf8 a → Each (λ f b. RawProperty f a b) (property_item sub a)
  unfolding property_item
  property_each a u = go (lexeme a) refl
    where
      go : (o : Option Lexeme) → lexeme a ≡ o → Each (λ f b. RawProperty f a b) (property_by sub o a)
      go (Some (word x)) is = let t = there a u _ is in named_property_each x a (after a) t.utf8 t.token
      go (Some (sign s)) is = let t = there a u _ is in
          each_if (is_text s (codes "...")) _ _
          (λ e. let tok = as_sign (codes "...") e t.token in each_weaker (spread_each sub good a (after a) t.utf8 tok) (λ f b (g, same, x). rw (same) (raw_rest tok x)))
          (λ _. each_if (is_text s (codes "*")) _ _
          (λ e. marked_method_each [] (codes "*") a (after a) t.utf8 (a, spell.no_async, spell.with_star (as_sign (codes "*") e t.token)))
          (λ _. keyed_each a u))
      go None is = keyed_each a u
      go (Some (private_name x)) is = keyed_each a u
      go (Some (number x)) is = keyed_each a u
      go (Some (big_integer x)) is = keyed_each a u
      go (Some (string x v)) is = keyed_each a u
      go (Some (regexp x v)) is = keyed_each a u
      go (Some (no_substitution x)) is = keyed_each a u
      go (Some (template_head x)) is = keyed_each a u
      go (Some (template_middle x)) is = keyed_each a u
      go (Some (template_tail x)) is = keyed_each a u

  -- behind `{`
  pub object_each : {i : Bool} (a b : Text) → IsUtf8 b → Sign (codes "{") a b → Each (λ f c. Covers i 0 f a c) (object sub b)
  unfolding object
  object_each a b u open' =
      each_bind _ (group_each RawProperty (property_item sub) property_each (codes "}") b u) (λ found c v x.
      each_bind _ (expect_each (codes "}") c v) (λ _ d w close. each_some _ _ w (object_covers open' x close)))

  -- ---- classes

  heritage_each : (a : Text) → IsUtf8 a → Each (λ h b. Heritage h a b) (heritage sub a)
  unfolding heritage
  heritage_each a u = each_if (sees_word (codes "extends") a) _ _
      (λ is. let t = seen_word (codes "extends") a u is in each_weaker (part_each sub good 18 true (after a) t.utf8) (λ e b x. spell.heritage t.token x.high x.stands))
      (λ _. each_some absent a u spell.no_heritage)

  method_element_each : (static async s a m b : Text) → IsUtf8 b → Static static a m → Marks async s m b → Each (λ e c. ClassElement e a c) (element_function sub (codes "method") static true async s b)
  unfolding element_function
  method_element_each static async s a m b u held (n, mark, star') =
      each_bind _ (member_key_each sub good b u) (λ k c v x.
      each_bind _ (method_function_each sub good true async s c v) (λ f d w y.
      each_if (is_constructor static k.0 k.1) _ _ (λ _. each_none) (λ other. each_some _ _ w (spell.method_element other held (spell.method mark star' x y)))))

  accessor_element_each : (kind static a m b : Text) → IsUtf8 b → Static static a m → is_accessor kind ≡ true → Word kind m b → Each (λ e c. ClassElement e a c) (element_function sub kind static (takes_comma kind) [] [] b)
  unfolding element_function
  accessor_element_each kind static a m b u held is = accessor_cases (λ kind. Word kind m b → Each (λ e c. ClassElement e a c) (element_function sub kind static (takes_comma kind) [] [] b)) kind is
      (λ tok. each_bind _ (member_key_each sub good b u) (λ k c v x. each_bind _ (method_function_each sub good true [] [] c v) (λ f d w y.
      each_if (is_constructor static k.0 k.1) _ _ (λ _. each_none) (λ other. each_some _ _ w (spell.accessor_element other held (spell.getter tok x y))))))
      (λ tok. each_bind _ (member_key_each sub good b u) (λ k c v x. each_bind _ (method_function_each sub good false [] [] c v) (λ f d w y.
      each_if (is_constructor static k.0 k.1) _ _ (λ _. each_none) (λ other. each_some _ _ w (spell.accessor_element other held (spell.setter tok x y))))))

  field_each : (static : Text) (k : Keyed) (a m b : Text) → IsUtf8 b → Static static a m → MemberKey k.0 k.1 m b → Each (λ e c. ClassElement e a c) (field sub static k b)
  unfolding field
  field_each static k a m b u held x =
      each_bind _ (initializer_each sub good true b u) (λ v c w y.
      each_bind _ (semicolon_each (field_edge static k.0 k.1 v) c w) (λ _ d z end. each_some _ _ z (spell.field_element held x (initial_initializer y) end)))

  -- a method without a mark, which may be the constructor
  plain_method : (static : Text) (k : Keyed) (f : Term) (c' : Bool) {a m b d : Text} → is_constructor static k.0 k.1 ≡ c' → Static static a m → MemberKey k.0 k.1 m b → MethodFunction true [] [] f b d → ClassElement (method_node (method_kind c') k.0 static k.1 f) a d
  plain_method static k f false is held x y = spell.method_element is held (spell.method spell.no_async spell.no_star x y)
  plain_method [] (false, k) f true is spell.no_static x y = spell.constructor_element is x y
  plain_method [] (true, k) f true is held x y = absurd (cc)
  plain_method (c ∷ cs) k f true is held x y = absurd (cc)

  plain_element_each : (static a m : Text) → IsUtf8 m → Static static a m → Each (λ e c. ClassElement e a c) (plain_element sub static m)
  unfolding plain_element
  plain_element_each static a m u held =
      each_bind _ (member_key_each sub good m u) (λ k b v x. each_if (sees (codes "(") b) _ _
      (λ _. each_bind _ (method_function_each sub good true [] [] b v) (λ f d w y. each_some _ _ w (plain_method static k f (is_constructor static k.0 k.1) refl held x y)))
      (λ _. field_each static k a m b v held x))

  word_element_each : (static x a m : Text) → IsUtf8 m → Static static a m → lexeme m ≡ Some (word x) → Each (λ e c. ClassElement e a c) (word_element sub static x m)
  unfolding word_element modifies_method
  word_element_each static x a m u held is =
      let t = there m u _ is in
      each_if (is_text x (codes "async") && modifies_method (after m)) _ _
      (λ h. let (same, on) = and_parts (is_text x (codes "async")) (modifies_method (after m)) h in
      let (line, more') = and_parts (same_line (after m)) (begins_key_at (after m) || sees (codes "*") (after m)) on in
      each_bind _ (star_each (after m) t.utf8) (λ s c v y. method_element_each static (codes "async") s a m c v held (after m, spell.with_async (as_word (codes "async") same t.token) (on_same_line (after m) line), y)))
      (λ _. each_if (is_accessor x && begins_key_at (after m)) _ _
      (λ h. accessor_element_each x static a m (after m) t.utf8 held (and_parts (is_accessor x) (begins_key_at (after m)) h).0 t.token)
      (λ _. plain_element_each static a m u held))

  marked_element_each : (static a m : Text) → IsUtf8 m → Static static a m → Each (λ e c. ClassElement e a c) (marked_element sub static m)
  unfolding marked_element
  marked_element_each static a m u held = go (lexeme m) refl
    where
      go : (o : Option Lexeme) → lexeme m ≡ o → Each (λ e c. ClassElement e a c) (element_by sub static o m)
      go (Some (word x)) is = word_element_each static x a m u held is
      go (Some (sign s)) is = let t = there m u _ is in each_if (is_text s (codes "*")) _ _
          (λ e. method_element_each static [] (codes "*") a m (after m) t.utf8 held (m, spell.no_async, spell.with_star (as_sign (codes "*") e t.token)))
          (λ _. plain_element_each static a m u held)
      go None is = plain_element_each static a m u held
      go (Some (private_name x)) is = plain_element_each static a m u held
      go (Some (number x)) is = plain_element_each static a m u held
      go (Some (big_integer x)) is = plain_element_each static a m u held
      go (Some (string x v)) is = plain_element_each static a m u held
      go (Some (regexp x v)) is = plain_element_each static a m u held
      go (Some (no_substitution x)) is = plain_element_each static a m u held
      go (Some (template_head x)) is = plain_element_each static a m u held
      go (Some (template_middle x)) is = plain_element_each static a m u held
      go (Some (template_tail x)) is = plain_element_each static a m u held

  static_element_each : (a b : Text) → IsUtf8 b → Word (codes "static") a b → Each (λ e c. ClassElement e a c) (static_element sub b)
  unfolding static_element static_block
  static_element_each a b u tok = each_if (sees (codes "{") b) _ _
      (λ is. let t = seen (codes "{") b u is in each_bind _ (enclosed_each sub good (after b) t.utf8) (λ ss c v x. each_some _ _ v (spell.static_block tok t.token x.stand x.close)))
      (λ _. marked_element_each (codes "static") a b u (spell.with_static tok))

  class_element_each : (a : Text) → IsUtf8 a → Each (λ e b. ClassElement e a b) (class_element sub a)
  unfolding class_element
  class_element_each a u = each_if (sees_word (codes "static") a && modifies_element (after a)) _ _
      (λ h. let t = seen_word (codes "static") a u (and_parts (sees_word (codes "static") a) (modifies_element (after a)) h).0 in static_element_each a (after a) t.utf8 t.token)
      (λ _. marked_element_each [] a a u spell.no_static)

  elements_each : (n : ℕ) (found : List Term) (a : Text) → IsUtf8 a → Each (λ es b. GivesElements found es a b) (elements sub n found a)
  unfolding elements
  elements_each zero found a u = each_none
  elements_each (suc n) found a u = each_if (sees (codes "}") a) _ _
      (λ _. each_some found a u (record { new = []; whole = sym (append-nil found); stand = spell.no_elements }))
      (λ _. each_if (sees (codes ";") a) _ _
      (λ is. let t = seen (codes ";") a u is in each_weaker (elements_each n found (after a) t.utf8) (λ es b rest. record { new = rest.new; whole = rest.whole; stand = spell.lone_semicolon t.token rest.stand }))
      (λ _. each_bind _ (class_element_each a u) (λ e b v x. each_weaker (elements_each n (found ++ e ∷ []) b v) (λ es c rest. record {
        new = e ∷ rest.new;
        whole = rest.whole ∙ append_assoc found (e ∷ []) rest.new;
        stand = spell.next_element x rest.stand;
      }))))

  -- behind `class`
  pub class_each : (k : Kind) (a b : Text) → IsUtf8 b → Word (codes "class") a b → Each (λ t c. ClassText k t a c) (class sub k b)
  unfolding class
  class_each k a b u tok =
      each_bind _ (naming_each b u) (λ id c v x.
      each_bind _ (heritage_each c v) (λ h d w y.
      each_bind _ (expect_each (codes "{") d w) (λ _ e z open'.
      each_bind _ (elements_each (length e) [] e z) (λ es f o q.
      each_bind _ (expect_each (codes "}") f o) (λ _ g p close. each_some _ _ p (spell.class tok x y open' (subst (λ (l : List Term). Elements l e f) (sym q.whole) q.stand) close))))))
