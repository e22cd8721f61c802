-- Arrows, members, calls and what stands in parentheses: what is read is spelled.
use Rattle.std.proofs.Common.{◌≡◌, ◌≤◌, ℕ, zero, suc, Bool, true, false, ◌||◌, if◌then◌else◌, List, [], ◌∷◌, length, Option, Some, None, refl, ◌∙◌, arith, codes}
use Rattle.std.specs.Str.{IsUtf8}
use Rattle.std.proofs.lemmas.Bool.{and_parts}
use Rattle.js_term.specs.Term.{Text, is_text, Term, all}
use Rattle.js_term.specs.declared.kind.Kind.{Kind}
use Rattle.js_term.specs.Lexeme.{is_reserved}
use Rattle.js_syntax.specs.Nodes.{call_link}
use Rattle.js_syntax.specs.Parts.{is_node}
use Rattle.js_syntax.specs.Tokens.{Lexeme, word, private_name, number, big_integer, string, no_substitution, template_head, sign, regexp, template_middle, template_tail, Word, Sign, SameLine}
use Rattle.js_syntax.specs.Edges.{begins_with_brace}
use Rattle.js_syntax.specs.Spelling.{Stands, Expression, Listed, Async, ArrowHead, ArrowBody, Arguments, Dot, Optional, Access, Link, Spine, Parameters}
use Rattle.js_syntax.specs.Spelling as spell
use Rattle.js_tokens.specs.Next.{lexeme, after}
use Rattle.js_reading.specs.declared.goal.Goal.{Goal}
use Rattle.js_reading.specs.Reading.{Found, Reading, ◌>>=◌, sees, same_line, arrow_here, trees, joined, any_cover}
use Rattle.js_reading.specs.Parts.{item}
use Rattle.js_reading.specs.Expressions.{named_parameters, parameters_in, any_spread, arrow_body, arrow, arrow_by, parenthesized_by, parenthesized, async_parenthesized, named, dotted_by, dotted, computed, called, optional_by, optional_link, link_by, is_link, operator_text, links, chain}
use Rattle.js_reading.proofs.Each.{Each, each_none, each_some, each_bind, each_weaker, each_if, or_both, there, seen, on_same_line, expect_each}
use Rattle.js_reading.proofs.Chains.{Chain, only, link, Held, held_some, group_each}
use Rattle.js_reading.proofs.Covers.{Covers, closed_covers, Raw, raw, raw_spread, raw_argument, held_group}
use Rattle.js_reading.proofs.ArrowParameters.{arrow_parameters_there}
use Rattle.js_reading.proofs.SoundParts.{Good, joined_stands, part_each, expression_each, item_each, arguments_each}
use Rattle.js_reading.proofs.SoundFunctions.{body_each}
use Rattle.js_reading.proofs.SoundLiterals.{as_sign}
use Rattle.js_reading.proofs.Opens.{expression_opens}

-- a body that begins with no brace
no_brace : {i : Bool} {n : ℕ} {e : Term} {a b : Text} → Stands i n e a b → IsUtf8 a → sees (codes "{") a ≡ false → begins_with_brace e ≡ false
no_brace s u h = (expression_opens (spell.single s) u).brace ∙ h

-- what stands in parentheses, as expressions
raw_expressions : {fs : List Found} {a b : Text} → Chain (Raw false) fs a b → any_cover fs ≡ false → any_spread fs ≡ false → Listed (spell.expression true) (trees fs) a b
raw_expressions (only {x} (raw c)) h k = spell.last (spell.an_expression (c.stands (or_both x.cover false h).0))
raw_expressions (only (raw_spread tok c)) h k = absurd (cc)
raw_expressions (link {x} {xs} (raw c) tok rest) h k =
    let both = or_both x.cover (any_cover xs) h in
    let more' = or_both (is_node Kind.SpreadElement x.tree) (any_spread xs) k in
    spell.and (spell.an_expression (c.stands both.0)) tok (raw_expressions rest both.1 more'.1)
raw_expressions (link (raw_spread tok c) tok' rest) h k = absurd (cc)

held_expression : (f : Found) (fs : List Found) (comma : Bool) (a b : Text) → Held (Raw false) (f ∷ fs) comma a b → comma || any_cover (f ∷ fs) || any_spread (f ∷ fs) ≡ false → Expression true (joined (trees (f ∷ fs))) a b
held_expression f fs false a b (held_some stops c) h =
    let (covers, spreads) = or_both (any_cover (f ∷ fs)) (any_spread (f ∷ fs)) h in joined_stands (raw_expressions c covers spreads)
held_expression f fs true a b x h = absurd (cc)

module _ (sub : Goal → Text → Reading Found) (good : Good sub) where
  -- ---- arrows

  arrow_body_each : (i : Bool) (a : Text) → IsUtf8 a → Each (λ t b. ArrowBody i t a b) (arrow_body sub i a)
  unfolding arrow_body
  arrow_body_each i a u = each_if (sees (codes "{") a) _ _
      (λ _. each_weaker (body_each sub good a u) (λ t b x. spell.block_body x))
      (λ other. each_weaker (part_each sub good 2 i a u) (λ t b x. spell.concise_body (no_brace x.stands u other) x.stands))

  pub arrow_each : (i : Bool) (async : Text) (ps : Term) (a b c : Text) → IsUtf8 c → ArrowHead async ps a b → SameLine b → Sign (codes "=>") b c → Each (λ f d. Covers i 0 f a d) (arrow sub i async ps c)
  unfolding arrow
  arrow_each i async ps a b c u head line tok =
      each_bind _ (arrow_body_each i c u) (λ t d v x. each_some _ _ v (closed_covers (omega arith) refl refl (spell.arrow head line tok x)))

  -- an arrow where one is here
  arrow_at : (i : Bool) (async : Text) (ps : Term) (a b : Text) → IsUtf8 b → ArrowHead async ps a b → arrow_here b ≡ true → Each (λ f d. Covers i 0 f a d) (arrow sub i async ps (after b))
  unfolding arrow_here
  arrow_at i async ps a b u head h =
      let (is, line) = and_parts (sees (codes "=>") b) (same_line b) h in
      let t = seen (codes "=>") b u is in
      arrow_each i async ps a b (after b) t.utf8 head (on_same_line b line) t.token

  arrow_from : (i : Bool) (async : Text) (a b : Text) → IsUtf8 b → arrow_here b ≡ true → (o : Option Term) → ((ps : Term) → o ≡ Some ps → ArrowHead async ps a b) → Each (λ f d. Covers i 0 f a d) (arrow_by sub i async o (after b))
  arrow_from i async a b u h None head = each_none
  arrow_from i async a b u h (Some ps) head = arrow_at i async ps a b u (head ps refl) h

  parenthesized_from : (i : Bool) (fs : List Found) (comma : Bool) (a b c d : Text) → IsUtf8 d → Sign (codes "(") a b → Held (Raw false) fs comma b c → Sign (codes ")") c d → Each (λ f e. Covers i 0 f a e) (parenthesized_by sub fs comma d)
  parenthesized_from i [] comma a b c d u open' held close = each_none
  parenthesized_from i (f ∷ fs) comma a b c d u open' held close = each_if (comma || any_cover (f ∷ fs) || any_spread (f ∷ fs)) _ _ (λ _. each_none)
      (λ h. each_some _ _ u (closed_covers (omega arith) refl refl (spell.parenthesized open' (held_expression f fs comma b c held h) close)))

  -- behind `(`
  pub parenthesized_each : (i : Bool) (a b : Text) → IsUtf8 b → Sign (codes "(") a b → Each (λ f c. Covers i 0 f a c) (parenthesized sub i b)
  unfolding parenthesized
  parenthesized_each i a b u open' =
      each_bind _ (group_each (Raw false) (item sub) (item_each sub good false) (codes ")") b u) (λ found c v x.
      each_bind _ (expect_each (codes ")") c v) (λ _ d w close.
      each_if (arrow_here d) _ _
      (λ h. arrow_from i [] a d w h (parameters_in found.0 found.1) (λ ps is. spell.arrow_parameters (arrow_parameters_there open' x close ps is)))
      (λ _. parenthesized_from i found.0 found.1 a b c d w open' x close)))

  -- behind `async (` on one line
  pub async_parenthesized_each : (i : Bool) (a b c : Text) → IsUtf8 c → Word (codes "async") a b → SameLine b → Sign (codes "(") b c → Each (λ f d. Covers i 0 f a d) (async_parenthesized sub i c)
  unfolding async_parenthesized
  async_parenthesized_each i a b c u tok line open' =
      each_bind _ (group_each (Raw false) (item sub) (item_each sub good false) (codes ")") c u) (λ found d v x.
      each_bind _ (expect_each (codes ")") d v) (λ _ e w close.
      each_if (arrow_here e) _ _
      (λ h. arrow_from i (codes "async") a e w h (parameters_in found.0 found.1) (λ ps is. spell.arrow_async tok line (spell.arrow_parameters (arrow_parameters_there open' x close ps is))))
      (λ _. each_if (any_cover found.0) _ _ (λ _. each_none)
      (λ h. each_some _ _ w (closed_covers (omega arith) refl refl (spell.call (omega arith) (spell.identifier refl tok) (spell.arguments open' (held_group raw_argument x h) close)))))))

  -- behind a name
  pub named_each : (i : Bool) (x a b : Text) → IsUtf8 b → is_reserved x ≡ false → Word x a b → Each (λ f c. Covers i 0 f a c) (named sub i x b)
  unfolding named
  named_each i x a b u free tok = each_if (arrow_here b) _ _
      (λ h. arrow_at i [] (named_parameters x) a b u (spell.arrow_name free tok) h)
      (λ _. each_some _ _ u (closed_covers (omega arith) refl refl (spell.identifier free tok)))

  -- behind `async` a name, an arrow behind it
  pub async_name_each : (i : Bool) (x a b c : Text) → IsUtf8 c → Word (codes "async") a b → SameLine b → is_reserved x ≡ false → Word x b c → arrow_here c ≡ true → Each (λ f d. Covers i 0 f a d) (arrow sub i (codes "async") (named_parameters x) (after c))
  async_name_each i x a b c u tok line free name h = arrow_at i (codes "async") (named_parameters x) a c u (spell.arrow_async tok line (spell.arrow_name free name)) h

  -- ---- members and calls

  pub dotted_each : (optional : Bool) (o : Term) (a b : Text) → IsUtf8 b → Dot optional a b → Each (λ e c. Access optional o e a c) (dotted sub optional o b)
  unfolding dotted
  dotted_each optional o a b u dot = go (lexeme b) refl
    where
      go : (l : Option Lexeme) → lexeme b ≡ l → Each (λ e c. Access optional o e a c) (dotted_by sub optional o l (after b))
      go (Some (word x)) is = let t = there b u _ is in each_some _ _ t.utf8 (spell.static_access dot t.token)
      go (Some (private_name x)) is = let t = there b u _ is in each_some _ _ t.utf8 (spell.private_access dot t.token)
      go None is = each_none
      go (Some (number x)) is = each_none
      go (Some (big_integer x)) is = each_none
      go (Some (string x v)) is = each_none
      go (Some (regexp x v)) is = each_none
      go (Some (no_substitution x)) is = each_none
      go (Some (template_head x)) is = each_none
      go (Some (template_middle x)) is = each_none
      go (Some (template_tail x)) is = each_none
      go (Some (sign x)) is = each_none

  -- behind `[`
  pub computed_each : (optional : Bool) (o : Term) (a b c : Text) → IsUtf8 c → Optional optional a b → Sign (codes "[") b c → Each (λ e d. Access optional o e a d) (computed sub optional o c)
  unfolding computed
  computed_each optional o a b c u q open' =
      each_bind _ (expression_each sub good true c u) (λ e d v x.
      each_bind _ (expect_each (codes "]") d v) (λ _ f w close. each_some _ _ w (spell.computed_access q open' x close)))

  -- behind `(`
  pub called_each : (optional : Bool) (o : Term) (a b : Text) → IsUtf8 b → Sign (codes "(") a b → Each (λ e c. (es : List Term) × (e ≡ call_link optional o (all es)) × Arguments es a c) (called sub optional o b)
  unfolding called
  called_each optional o a b u open' = each_bind _ (arguments_each sub good a b u open') (λ es c v x. each_some _ _ v (es, refl, x))

  -- a link behind what it is of
  called_link : (optional : Bool) (o : Term) (a b c : Text) → IsUtf8 c → Optional optional a b → Sign (codes "(") b c → Each (λ e d. Link optional o e a d) (called sub optional o c)
  called_link optional o a b c u q open' = each_weaker (called_each optional o b c u open') (λ e d (es, same, x). rw (same) (spell.argument_link q x))

  -- behind `?.`
  optional_link_each : (o : Term) (a b : Text) → IsUtf8 b → Sign (codes "?.") a b → Each (λ e c. Link true o e a c) (optional_link sub o b)
  unfolding optional_link
  optional_link_each o a b u dot = go (lexeme b) refl
    where
      plain : Each (λ e c. Link true o e a c) (dotted sub true o b)
      plain = each_weaker (dotted_each true o a b u (spell.optional_dot dot)) (λ e c x. spell.access_link x)

      go : (l : Option Lexeme) → lexeme b ≡ l → Each (λ e c. Link true o e a c) (optional_by sub o l b)
      go (Some (sign s)) is = let t = there b u _ is in
          each_if (is_text s (codes "[")) _ _
          (λ e. each_weaker (computed_each true o a b (after b) t.utf8 (spell.is_optional dot) (as_sign (codes "[") e t.token)) (λ e c x. spell.access_link x))
          (λ _. each_if (is_text s (codes "(")) _ _
          (λ e. called_link true o a b (after b) t.utf8 (spell.is_optional dot) (as_sign (codes "(") e t.token))
          (λ _. each_none))
      go None is = plain
      go (Some (word x)) is = plain
      go (Some (private_name x)) is = plain
      go (Some (number x)) is = plain
      go (Some (big_integer x)) is = plain
      go (Some (string x v)) is = plain
      go (Some (regexp x v)) is = plain
      go (Some (no_substitution x)) is = plain
      go (Some (template_head x)) is = plain
      go (Some (template_middle x)) is = plain
      go (Some (template_tail x)) is = plain

  link_each : (i : Bool) (o : Term) (s a b c : Text) → IsUtf8 c → is_link (Some (sign s)) ≡ true → Spine i o a b → Sign s b c → Each (λ e d. Spine i e a d) (link_by sub o s c)
  link_each i o s a b c u on spine tok =
      each_if (is_text s (codes "?.")) _ _
      (λ e. each_weaker (optional_link_each o b c u (as_sign (codes "?.") e tok)) (λ e d x. spell.next_link spine x)) (λ n0.
      each_if (is_text s (codes ".")) _ _
      (λ e. each_weaker (dotted_each false o b c u (spell.plain_dot (as_sign (codes ".") e tok))) (λ e d x. spell.next_link spine (spell.access_link x))) (λ n1.
      each_if (is_text s (codes "[")) _ _
      (λ e. each_weaker (computed_each false o b b c u spell.not_optional (as_sign (codes "[") e tok)) (λ e d x. spell.next_link spine (spell.access_link x)))
      (λ n2. each_weaker (called_link false o b b c u spell.not_optional (as_sign (codes "(") (last n0 n1 n2 on) tok)) (λ e d x. spell.next_link spine x))))
    where
      last : is_text s (codes "?.") ≡ false → is_text s (codes ".") ≡ false → is_text s (codes "[") ≡ false → is_link (Some (sign s)) ≡ true → is_text s (codes "(") ≡ true
      last n0 n1 n2 on = go (is_text s (codes "?.")) (is_text s (codes ".")) (is_text s (codes "[")) (is_text s (codes "(")) n0 n1 n2 on
        where
          go : (p q r t : Bool) → p ≡ false → q ≡ false → r ≡ false → (p || (q || (r || (t || false)))) ≡ true → t ≡ true
          go false false false true x y z h = refl
          go false false false false x y z h = absurd (cc)
          go true q r t x y z h = absurd (cc)
          go false true r t x y z h = absurd (cc)
          go false false true t x y z h = absurd (cc)

  links_each : (i : Bool) (n : ℕ) (o : Term) (a b : Text) → IsUtf8 b → Spine i o a b → Each (λ e c. Spine i e a c) (links sub n o b)
  unfolding links
  links_each i zero o a b u spine = each_some o b u spine
  links_each i (suc n) o a b u spine = go (λ e c v x. links_each i n e a c v x) (lexeme b) refl
    where
      go : ((e : Term) (c : Text) → IsUtf8 c → Spine i e a c → Each (λ f d. Spine i f a d) (links sub n e c)) → (l : Option Lexeme) → lexeme b ≡ l → Each (λ e c. Spine i e a c) (if is_link l then (link_by sub o (operator_text l) (after b) >>= links sub n) else Some (o, b))
      go again (Some (sign s)) is = let t = there b u _ is in
          each_if (is_link (Some (sign s))) _ _
          (λ on. each_bind _ (link_each i o s a b (after b) t.utf8 on spine t.token) (λ e c v x. again e c v x))
          (λ _. each_some o b u spine)
      go again None is = each_some o b u spine
      go again (Some (word x)) is = each_some o b u spine
      go again (Some (private_name x)) is = each_some o b u spine
      go again (Some (number x)) is = each_some o b u spine
      go again (Some (big_integer x)) is = each_some o b u spine
      go again (Some (string x v)) is = each_some o b u spine
      go again (Some (regexp x v)) is = each_some o b u spine
      go again (Some (no_substitution x)) is = each_some o b u spine
      go again (Some (template_head x)) is = each_some o b u spine
      go again (Some (template_middle x)) is = each_some o b u spine
      go again (Some (template_tail x)) is = each_some o b u spine

  -- behind the first `?.`
  pub chain_each : (i : Bool) (least n : ℕ) (o : Term) (a b c : Text) → IsUtf8 c → least ≤ 18 → 19 ≤ n → Stands i n o a b → Sign (codes "?.") b c → Each (λ f d. Covers i least f a d) (chain sub o c)
  unfolding chain
  chain_each i least n o a b c u low high s tok =
      each_bind _ (optional_link_each o b c u tok) (λ e d v x.
      each_bind _ (links_each i (length d) e a d v (spell.first_link high s x)) (λ e' f w spine. each_some _ _ w (closed_covers low refl refl (spell.chain spine))))
