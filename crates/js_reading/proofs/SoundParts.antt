-- Lists of expressions, arguments, keys and templates that are read are spelled.
use Rattle.std.proofs.Common.{◌≡◌, ◌≤◌, ℕ, zero, suc, Bool, true, false, nat_le, List, [], ◌∷◌, ◌++◌, length, Option, Some, None, refl, sym, subst, ◌∙◌, append_assoc, append-nil, codes}
use Rattle.std.specs.Str.{IsUtf8}
use Rattle.js_term.specs.Term.{Text, is_text, Term, absent}
use Rattle.js_syntax.specs.Tokens.{Lexeme, word, private_name, number, big_integer, string, no_substitution, template_head, sign, regexp, template_middle, template_tail, Token, Sign}
use Rattle.js_syntax.specs.Spelling.{Stands, Expression, Item, Listed, Group, BareNew, Template, TemplateRest, Key, MemberKey, Pattern, Statement}
use Rattle.js_syntax.specs.Spelling as spell
use Rattle.js_syntax.proofs.Fronts.{same_text}
use Rattle.js_tokens.specs.Next.{Cut, lexeme, after, next_tail}
use Rattle.js_tokens.proofs.GoalLaws.{tail_token_found}
use Rattle.js_reading.specs.declared.goal.Goal.{Goal}
use Rattle.js_reading.specs.declared.goal.Goal.TheVariants as goal
use Rattle.js_reading.specs.Reading.{Found, closed, Reading, sees, separated, joined, trees, any_cover}
use Rattle.js_reading.specs.Parts.{spread_of, quasi, is_allowed, Quasis, part, expression, spread, item, element, argument, arguments, computed_key, key_by, key, member_key_by, member_key, quasi_by, template_rest, template_by}
use Rattle.js_reading.proofs.Utf8.{tail_utf8}
use Rattle.js_reading.proofs.Each.{Each, each_none, each_some, each_bind, each_weaker, each_if, there, seen, expect_each}
use Rattle.js_reading.proofs.Chains.{Chain, only, link, Held, held_none, held_some, held_comma, separated_each, group_each}
use Rattle.js_reading.proofs.Covers.{Covers, Raw, raw, raw_spread, raw_hole, ItemOf, held_group, raw_argument}

-- ---- what a goal's answer is

-- behind `new`: a member expression, or a `new` without arguments
pub record Callees (i : Bool) (f : Found) (a b : Text) : Type 0 where
  pub stands : f.cover ≡ false → nat_le 20 f.level ≡ true → Stands i f.level f.tree a b
  pub bare : f.cover ≡ false → nat_le 20 f.level ≡ false → BareNew i f.tree a b

abbrev pub Fits : Goal → Text → Found → Text → Type 0
Fits (goal.Expression least i) a f b = Covers i least f a b
Fits (goal.Callee i) a f b = Callees i f a b
Fits goal.Pattern a f b = Pattern f.tree a b
Fits goal.Statement a f b = Statement f.tree a b

-- what reads a part reads what is spelled
abbrev pub Good : (Goal → Text → Reading Found) → Type 0
Good sub = (g : Goal) (a : Text) → IsUtf8 a → Each (Fits g a) (sub g a)

pub record StandsHigh (i : Bool) (least : ℕ) (e : Term) (a b : Text) : Type 0 where
  pub level : ℕ
  pub high : least ≤ level
  pub stands : Stands i level e a b

pub joined_stands : {i : Bool} {es : List Term} {a b : Text} → Listed (spell.expression i) es a b → Expression i (joined es) a b
joined_stands (spell.last (spell.an_expression s)) = spell.single s
joined_stands (spell.and x tok (spell.last y)) = spell.sequence refl (spell.and x tok (spell.last y))
joined_stands (spell.and x tok (spell.and y tok' rest)) = spell.sequence refl (spell.and x tok (spell.and y tok' rest))

-- an argument is no cover
pub record Argument (f : Found) (a b : Text) : Type 0 where
  pub raw : Raw false f a b
  pub settled : f.cover ≡ false

argument_of : ItemOf spell.argument Argument
argument_of = record { item = λ f a b x h. raw_argument.item f a b x.raw h; present = λ f a b x h. raw_argument.present f a b x.raw h }

chain_settled : {fs : List Found} {a b : Text} → Chain Argument fs a b → any_cover fs ≡ false
chain_settled (only x) = rw (x.settled) refl
chain_settled (link x tok rest) = rw (x.settled) (chain_settled rest)

held_settled : {fs : List Found} {comma : Bool} {a b : Text} → Held Argument fs comma a b → any_cover fs ≡ false
held_settled held_none = refl
held_settled (held_some stops c) = chain_settled c
held_settled (held_comma c tok) = chain_settled c

-- the rest of a template behind what was read of it
pub record GivesTemplate (sound : Bool) (found q : Quasis) (a b : Text) : Type 0 where
  pub quasis : List Term
  pub expressions : List Term
  pub first : q.0 ≡ found.0 ++ quasis
  pub second : q.1 ≡ found.1 ++ expressions
  pub rest : TemplateRest sound quasis expressions a b

pub record Middle (sound : Bool) (a : Text) (q : Bool × Text) (b : Text) : Type 0 where
  pub allowed : is_allowed sound q.1 ≡ true
  pub tail : q.0 ≡ false → Token a (template_tail q.1) b
  pub middle : q.0 ≡ true → Token a (template_middle q.1) b

quasi_each : (sound : Bool) (a : Text) → IsUtf8 a → Each (Middle sound a) (quasi_by sound (next_tail a))
quasi_each sound a u = go (next_tail a) refl
  where
    go : (c : Cut) → next_tail a ≡ c → Each (Middle sound a) (quasi_by sound c)
    go (Some (template_tail x, b)) is = each_if (is_allowed sound x) _ _
        (λ h. each_some (false, x) b (tail_utf8 a u _ b is) (record { allowed = h; tail = λ _. tail_token_found a u _ b is; middle = λ e. absurd (cc) })) (λ _. each_none)
    go (Some (template_middle x, b)) is = each_if (is_allowed sound x) _ _
        (λ h. each_some (true, x) b (tail_utf8 a u _ b is) (record { allowed = h; tail = λ e. absurd (cc); middle = λ _. tail_token_found a u _ b is })) (λ _. each_none)
    go None is = each_none
    go (Some (word x, b)) is = each_none
    go (Some (private_name x, b)) is = each_none
    go (Some (number x, b)) is = each_none
    go (Some (big_integer x, b)) is = each_none
    go (Some (string x v, b)) is = each_none
    go (Some (regexp x v, b)) is = each_none
    go (Some (no_substitution x, b)) is = each_none
    go (Some (template_head x, b)) is = each_none
    go (Some (sign x, b)) is = each_none

module _ (sub : Goal → Text → Reading Found) (good : Good sub) where
  pub part_each : (least : ℕ) (i : Bool) (a : Text) → IsUtf8 a → Each (λ e b. StandsHigh i least e a b) (part sub (goal.Expression least i) a)
  unfolding part
  part_each least i a u = each_bind _ (good (goal.Expression least i) a u) (λ f b v c. each_if f.cover _ _ (λ _. each_none) (λ h. each_some f.tree b v (record { level = f.level; high = c.high; stands = c.stands h })))

  pub statement_each : (a : Text) → IsUtf8 a → Each (λ f b. Statement f.tree a b) (sub goal.Statement a)
  statement_each a u = good goal.Statement a u

  an_item : (i : Bool) (a : Text) → IsUtf8 a → Each (λ e b. Item (spell.expression i) e a b) (part sub (goal.Expression 2 i) a)
  an_item i a u = each_weaker (part_each 2 i a u) (λ e b x. spell.an_expression x.stands)

  -- one or more, behind what was found
  pub listed_each : (i : Bool) (n : ℕ) (found : List Term) (a : Text) → IsUtf8 a → Each (λ es b. (new : List Term) × (es ≡ found ++ new) × Listed (spell.expression i) new a b) (separated (part sub (goal.Expression 2 i)) n found a)
  listed_each i n found a u = each_weaker (separated_each (spell.expression i) (part sub (goal.Expression 2 i)) (an_item i) n found a u) (λ es b x. (x.new, x.whole, x.listed))

  pub expression_each : (i : Bool) (a : Text) → IsUtf8 a → Each (λ e b. Expression i e a b) (expression sub i a)
  unfolding expression
  expression_each i a u = each_bind _ (listed_each i (length a) [] a u) (λ es b v (new, whole, listed). each_some (joined es) b v (rw (whole) (joined_stands listed)))

  pub spread_each : (a b : Text) → IsUtf8 b → Sign (codes "...") a b → Each (λ f c. (g : Found) × (f ≡ spread_of g) × Covers true 2 g b c) (spread sub b)
  unfolding spread
  spread_each a b u tok = each_bind _ (good (goal.Expression 2 true) b u) (λ f c v x. each_some (spread_of f) c v (f, refl, x))

  pub item_each : (h : Bool) (a : Text) → IsUtf8 a → Each (λ f b. Raw h f a b) (item sub a)
  unfolding item
  item_each h a u = each_if (sees (codes "...") a) _ _
      (λ is. let t = seen (codes "...") a u is in each_weaker (spread_each a (after a) t.utf8 t.token) (λ f b (g, same, x). rw (same) (raw_spread t.token x)))
      (λ _. each_weaker (good (goal.Expression 2 true) a u) (λ f b x. raw x))

  pub element_each : (a : Text) → IsUtf8 a → Each (λ f b. Raw true f a b) (element sub a)
  unfolding element
  element_each a u = each_if (sees (codes ",") a) _ _ (λ is. each_some (closed absent 0) a u (raw_hole is)) (λ _. item_each true a u)

  argument_each : (a : Text) → IsUtf8 a → Each (λ f b. Argument f a b) (argument sub a)
  unfolding argument
  argument_each a u = each_bind _ (item_each false a u) (λ f b v x. each_if f.cover _ _ (λ _. each_none) (λ h. each_some f b v (record { raw = x; settled = h })))

  -- behind `(`
  pub arguments_each : (a b : Text) → IsUtf8 b → Sign (codes "(") a b → Each (λ es c. spell.Arguments es a c) (arguments sub b)
  unfolding arguments
  arguments_each a b u open' =
      each_bind _ (group_each Argument (argument sub) argument_each (codes ")") b u) (λ found c v x.
      each_bind _ (expect_each (codes ")") c v) (λ _ d w close. each_some (trees found.0) d w (spell.arguments open' (held_group argument_of x (held_settled x)) close)))

  -- ---- keys

  computed_key_each : (a b : Text) → IsUtf8 b → Sign (codes "[") a b → Each (λ k c. Key k.0 k.1 a c) (computed_key sub b)
  unfolding computed_key
  computed_key_each a b u open' =
      each_bind _ (part_each 2 true b u) (λ e c v x.
      each_bind _ (expect_each (codes "]") c v) (λ _ d w close. each_some (true, e) d w (spell.computed_key open' x.stands close)))

  key_from : (a : Text) → IsUtf8 a → (o : Option Lexeme) → lexeme a ≡ o → Each (λ k b. Key k.0 k.1 a b) (key_by sub o (after a))
  key_from a u (Some (word x)) is = let t = there a u _ is in each_some _ _ t.utf8 (spell.name_key t.token)
  key_from a u (Some (string x v)) is = let t = there a u _ is in each_some _ _ t.utf8 (spell.string_key t.token)
  key_from a u (Some (number x)) is = let t = there a u _ is in each_some _ _ t.utf8 (spell.number_key t.token)
  key_from a u (Some (big_integer x)) is = let t = there a u _ is in each_some _ _ t.utf8 (spell.bigint_key t.token)
  key_from a u (Some (sign s)) is = each_if (is_text s (codes "[")) _ _
      (λ e. let t = there a u _ is in computed_key_each a (after a) t.utf8 (subst (λ (z : Text). Sign z a (after a)) (same_text s (codes "[") e) t.token))
      (λ _. each_none)
  key_from a u None is = each_none
  key_from a u (Some (private_name x)) is = each_none
  key_from a u (Some (regexp x v)) is = each_none
  key_from a u (Some (no_substitution x)) is = each_none
  key_from a u (Some (template_head x)) is = each_none
  key_from a u (Some (template_middle x)) is = each_none
  key_from a u (Some (template_tail x)) is = each_none

  pub key_each : (a : Text) → IsUtf8 a → Each (λ k b. Key k.0 k.1 a b) (key sub a)
  unfolding key
  key_each a u = key_from a u (lexeme a) refl

  pub member_key_each : (a : Text) → IsUtf8 a → Each (λ k b. MemberKey k.0 k.1 a b) (member_key sub a)
  unfolding member_key
  member_key_each a u = go (lexeme a) refl
    where
      go : (o : Option Lexeme) → lexeme a ≡ o → Each (λ k b. MemberKey k.0 k.1 a b) (member_key_by sub o (after a))
      go (Some (private_name x)) is = let t = there a u _ is in each_some _ _ t.utf8 (spell.private_key t.token)
      go (Some (word x)) is = each_weaker (key_from a u _ is) (λ k b y. spell.public_key y)
      go (Some (string x v)) is = each_weaker (key_from a u _ is) (λ k b y. spell.public_key y)
      go (Some (number x)) is = each_weaker (key_from a u _ is) (λ k b y. spell.public_key y)
      go (Some (big_integer x)) is = each_weaker (key_from a u _ is) (λ k b y. spell.public_key y)
      go (Some (sign x)) is = each_weaker (key_from a u _ is) (λ k b y. spell.public_key y)
      go None is = each_none
      go (Some (regexp x v)) is = each_none
      go (Some (no_substitution x)) is = each_none
      go (Some (template_head x)) is = each_none
      go (Some (template_middle x)) is = each_none
      go (Some (template_tail x)) is = each_none

  -- ---- templates

  template_rest_each : (sound : Bool) (n : ℕ) (found : Quasis) (a : Text) → IsUtf8 a → Each (λ q b. GivesTemplate sound found q a b) (template_rest sub sound n found a)
  unfolding template_rest
  template_rest_each sound zero found a u = each_none
  template_rest_each sound (suc n) found a u = each_bind _ (quasi_each sound a u) (λ q b v x. each_if q.0 _ _
      (λ is. each_bind _ (expression_each true b v) (λ e c w y. each_weaker (template_rest_each sound n (found.0 ++ quasi q.1 ∷ [], found.1 ++ e ∷ []) c w) (λ r d z. record {
        quasis = quasi q.1 ∷ z.quasis;
        expressions = e ∷ z.expressions;
        first = z.first ∙ append_assoc found.0 (quasi q.1 ∷ []) z.quasis;
        second = z.second ∙ append_assoc found.1 (e ∷ []) z.expressions;
        rest = spell.template_more x.allowed (x.middle is) y z.rest;
      })))
      (λ is. each_some _ _ v (record { quasis = quasi q.1 ∷ []; expressions = []; first = refl; second = sym (append-nil found.1); rest = spell.template_end x.allowed (x.tail is) })))

  pub template_each : (sound : Bool) (a : Text) → IsUtf8 a → (o : Option Lexeme) → lexeme a ≡ o → Each (λ q b. Template sound q.0 q.1 a b) (template_by sub sound o (after a))
  template_each sound a u (Some (no_substitution x)) is = let t = there a u _ is in
      each_if (is_allowed sound x) _ _ (λ h. each_some _ _ t.utf8 (spell.whole_template h t.token)) (λ _. each_none)
  template_each sound a u (Some (template_head x)) is = let t = there a u _ is in
      each_if (is_allowed sound x) _ _
      (λ h. each_bind _ (expression_each true (after a) t.utf8) (λ e c w y. each_weaker (template_rest_each sound (length c) (quasi x ∷ [], e ∷ []) c w) (λ r d z. rw (z.first, z.second) (spell.template_parts h t.token y z.rest))))
      (λ _. each_none)
  template_each sound a u None is = each_none
  template_each sound a u (Some (word x)) is = each_none
  template_each sound a u (Some (private_name x)) is = each_none
  template_each sound a u (Some (number x)) is = each_none
  template_each sound a u (Some (big_integer x)) is = each_none
  template_each sound a u (Some (string x v)) is = each_none
  template_each sound a u (Some (regexp x v)) is = each_none
  template_each sound a u (Some (sign x)) is = each_none
  template_each sound a u (Some (template_middle x)) is = each_none
  template_each sound a u (Some (template_tail x)) is = each_none
