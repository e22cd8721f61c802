-- Every tree of small form is of the kinds that the reader reads.
use Rattle.std.proofs.Common.{◌≡◌, true, false, List, refl}
use Rattle.std.proofs.lemmas.Bool.{and_parts}
use Rattle.js_term.specs.Term.{Term, absent, list, node, Terms, none, more}
use Rattle.js_term.specs.declared.kind.Kind.{Kind}
use Rattle.js_term.specs.declared.kind.Kind.TheVariants as Kind
use Rattle.js_term.specs.Form.{Sort, Place, one, nothing, many, some, single, several, empty, nowhere, takes_kind, takes_list, fits, fits_each, fits_places, item_place, first_place, later_places, places, allows, stands_small, is_small_name, is_small_binding, has_small_form, has_distinct_names, is_small}
use Rattle.js_read.specs.Plain.{is_read_kind, is_plain, are_plain}

-- where a kind stands that is not read
no_sort : (k : Kind) → ((s : Sort) → stands_small s k ≡ false) → (s : Sort) → stands_small s k ≡ true → is_read_kind k ≡ true
no_sort k never s h = let no = never s in absurd (cc)

no_boolean : (s : Sort) → stands_small s Kind.BooleanLiteral ≡ false
no_boolean Sort.item = refl
no_boolean Sort.statement = refl
no_boolean Sort.declaration = refl
no_boolean Sort.expression = refl
no_boolean Sort.effect = refl
no_boolean Sort.program = refl
no_boolean Sort.declarator = refl
no_boolean Sort.specifier = refl
no_boolean Sort.parameters = refl
no_boolean Sort.parameter = refl
no_boolean Sort.function_body = refl
no_boolean Sort.binding = refl
no_boolean Sort.name = refl
no_boolean Sort.source = refl
no_boolean Sort.property = refl
no_boolean Sort.method = refl

no_sequence : (s : Sort) → stands_small s Kind.SequenceExpression ≡ false
no_sequence Sort.item = refl
no_sequence Sort.statement = refl
no_sequence Sort.declaration = refl
no_sequence Sort.expression = refl
no_sequence Sort.effect = refl
no_sequence Sort.program = refl
no_sequence Sort.declarator = refl
no_sequence Sort.specifier = refl
no_sequence Sort.parameters = refl
no_sequence Sort.parameter = refl
no_sequence Sort.function_body = refl
no_sequence Sort.binding = refl
no_sequence Sort.name = refl
no_sequence Sort.source = refl
no_sequence Sort.property = refl
no_sequence Sort.method = refl

no_await : (s : Sort) → stands_small s Kind.AwaitExpression ≡ false
no_await Sort.item = refl
no_await Sort.statement = refl
no_await Sort.declaration = refl
no_await Sort.expression = refl
no_await Sort.effect = refl
no_await Sort.program = refl
no_await Sort.declarator = refl
no_await Sort.specifier = refl
no_await Sort.parameters = refl
no_await Sort.parameter = refl
no_await Sort.function_body = refl
no_await Sort.binding = refl
no_await Sort.name = refl
no_await Sort.source = refl
no_await Sort.property = refl
no_await Sort.method = refl

no_array : (s : Sort) → stands_small s Kind.ArrayExpression ≡ false
no_array Sort.item = refl
no_array Sort.statement = refl
no_array Sort.declaration = refl
no_array Sort.expression = refl
no_array Sort.effect = refl
no_array Sort.program = refl
no_array Sort.declarator = refl
no_array Sort.specifier = refl
no_array Sort.parameters = refl
no_array Sort.parameter = refl
no_array Sort.function_body = refl
no_array Sort.binding = refl
no_array Sort.name = refl
no_array Sort.source = refl
no_array Sort.property = refl
no_array Sort.method = refl

no_object : (s : Sort) → stands_small s Kind.ObjectExpression ≡ false
no_object Sort.item = refl
no_object Sort.statement = refl
no_object Sort.declaration = refl
no_object Sort.expression = refl
no_object Sort.effect = refl
no_object Sort.program = refl
no_object Sort.declarator = refl
no_object Sort.specifier = refl
no_object Sort.parameters = refl
no_object Sort.parameter = refl
no_object Sort.function_body = refl
no_object Sort.binding = refl
no_object Sort.name = refl
no_object Sort.source = refl
no_object Sort.property = refl
no_object Sort.method = refl

no_parentheses : (s : Sort) → stands_small s Kind.ParenthesizedExpression ≡ false
no_parentheses Sort.item = refl
no_parentheses Sort.statement = refl
no_parentheses Sort.declaration = refl
no_parentheses Sort.expression = refl
no_parentheses Sort.effect = refl
no_parentheses Sort.program = refl
no_parentheses Sort.declarator = refl
no_parentheses Sort.specifier = refl
no_parentheses Sort.parameters = refl
no_parentheses Sort.parameter = refl
no_parentheses Sort.function_body = refl
no_parentheses Sort.binding = refl
no_parentheses Sort.name = refl
no_parentheses Sort.source = refl
no_parentheses Sort.property = refl
no_parentheses Sort.method = refl

sort_read : (k : Kind) (s : Sort) → stands_small s k ≡ true → is_read_kind k ≡ true
sort_read Kind.BooleanLiteral s h = no_sort Kind.BooleanLiteral no_boolean s h
sort_read Kind.SequenceExpression s h = no_sort Kind.SequenceExpression no_sequence s h
sort_read Kind.AwaitExpression s h = no_sort Kind.AwaitExpression no_await s h
sort_read Kind.ArrayExpression s h = no_sort Kind.ArrayExpression no_array s h
sort_read Kind.ObjectExpression s h = no_sort Kind.ObjectExpression no_object s h
sort_read Kind.ParenthesizedExpression s h = no_sort Kind.ParenthesizedExpression no_parentheses s h
sort_read k s h = refl

place_read : (p : Place) (k : Kind) → takes_kind stands_small (allows is_small_name is_small_binding) places p k ≡ true → is_read_kind k ≡ true
place_read (one s) k h = sort_read k s h
place_read nothing k h = absurd (cc)
place_read (many s) k h = absurd (cc)
place_read (some s) k h = absurd (cc)
place_read (single s) k h = absurd (cc)
place_read (several s) k h = absurd (cc)
place_read empty k h = absurd (cc)
place_read nowhere k h = absurd (cc)

mutual
  fits_plain : (p : Place) (t : Term) → fits stands_small (allows is_small_name is_small_binding) places p t ≡ true → is_plain t ≡ true
  fits_plain p absent h = refl
  fits_plain p (list ts) h = let (x, each) = and_parts (takes_list p ts) _ h in each_plain (item_place p) ts each
  fits_plain p (node k texts ts) h =
      let (kind, rest) = and_parts (takes_kind stands_small (allows is_small_name is_small_binding) places p k) _ h in
      let (x, parts) = and_parts (allows is_small_name is_small_binding k texts) _ rest in
      rw (place_read p k kind) (places_plain (places k texts) ts parts)

  each_plain : (p : Place) (ts : Terms) → fits_each stands_small (allows is_small_name is_small_binding) places p ts ≡ true → are_plain ts ≡ true
  each_plain p none h = refl
  each_plain p (more t ts) h =
      let (first, rest) = and_parts (fits stands_small (allows is_small_name is_small_binding) places p t) _ h in
      rw (fits_plain p t first) (each_plain p ts rest)

  places_plain : (ps : List Place) (ts : Terms) → fits_places stands_small (allows is_small_name is_small_binding) places ps ts ≡ true → are_plain ts ≡ true
  places_plain ps none h = refl
  places_plain ps (more t ts) h =
      let (first, rest) = and_parts (fits stands_small (allows is_small_name is_small_binding) places (first_place ps) t) _ h in
      rw (fits_plain (first_place ps) t first) (places_plain (later_places ps) ts rest)

pub small_plain : (t : Term) → is_small t ≡ true → is_plain t ≡ true
small_plain t h = let (form, x) = and_parts (has_small_form t) (has_distinct_names t) h in fits_plain (one Sort.program) t form
