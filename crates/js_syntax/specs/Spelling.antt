-- Which text spells which module: the grammar of ECMAScript 13 to 16, one constructor for each row. Each relation holds
-- between a part of a tree, a text at whose front the part stands behind a gap, and the rest that it leaves.
use Rattle.std.specs.Prelude.{◌≡◌, ◌≤◌, ℕ, suc, List, [], ◌∷◌, Some, Bool, true, false, not, ◌||◌, codes}
use Rattle.js_term.specs.Term.{Text, is_text, Term, absent, list, node, none, one, two, all}
use Rattle.js_term.specs.declared.kind.Kind.{Kind}
use Rattle.js_term.specs.Lexeme.{is_reserved, is_one_of}
use Rattle.js_term.specs.Node.{identifier_of, binding_of, name_of, string_of, number_of, truth, boolean_of, sequence_of, await_of, array_of, object_of, parenthesized_of, return_of, statement_of}
use Rattle.js_syntax.specs.Lexical.{has_sound_escapes}
use Rattle.js_syntax.specs.Nodes.{alone, of_text, of_part, of_parts, of_list, marked, three, regexp_of, template_of, super_of, call_link, static_link, computed_link, private_of, private_link, new_of, update_of, property, pair_of, rested, parameter_of, function_node, body_node, class_node, method_node, field_node, variables_of, declarator_of, block_of, label_of, for_of, for_each, case_of, if_of, try_of}
use Rattle.js_syntax.specs.Tokens.{Front, SameLine, AtEnd, Lexeme, private_name, number, big_integer, string, regexp, no_substitution, template_head, template_middle, template_tail, Lexed, Token, Word, Sign}
use Rattle.js_syntax.specs.Texts.{assignment_operators}
use Rattle.js_syntax.specs.Printable.{ends_open, is_named, is_switch, is_try}
use Rattle.js_syntax.specs.Edges.{binary_level, is_unary, is_update, is_word_operator, is_coalesce_left, member_level, is_simple_target, is_private_member, no_private, is_unnamed, last_absent, begins_with_brace, begins_with_definition, is_body, is_constructor, begins_with_string, Edge, full, plain, edge, declared_edge, field_edge, is_sign_among, goes_on_with}

-- an operator, a word or a sign
pub data Operator : Text → Text → Text → Type 0 where
  word_operator : {op a b : Text} → is_word_operator op ≡ true → Word op a b → Operator op a b
  sign_operator : {op a b : Text} → Sign op a b → Operator op a b

-- The semicolon, written or left out (12.10): before `}`, at the end, and behind a line end before a token that does not
-- go on with what stands before.
pub data Semicolon (e : Edge) : Text → Text → Type 0 where
  written : {a b : Text} → Sign (codes ";") a b → Semicolon e a b
  before_brace : {a b : Text} → Sign (codes "}") a b → Semicolon e a a
  at_end : {a : Text} → AtEnd a → Semicolon e a a
  behind_line : {l : Lexeme} {a m b : Text} → Front true a m → Lexed l m b → is_sign_among (codes ";" ∷ []) l ≡ false → goes_on_with e l ≡ false → Semicolon e a a

-- the one behind `do s while (e)`: left out unless a semicolon comes next
pub data DoEnd : Text → Text → Type 0 where
  do_written : {a b : Text} → Sign (codes ";") a b → DoEnd a b
  do_at_end : {a : Text} → AtEnd a → DoEnd a a
  do_left_out : {l : Lexeme} {a b : Text} → Token a l b → is_sign_among (codes ";" ∷ []) l ≡ false → DoEnd a a

-- the flags async and generator, each by its word where it is set; no line end stands behind `async`
pub data Async : Text → Text → Text → Type 0 where
  no_async : {a : Text} → Async [] a a
  with_async : {a b : Text} → Word (codes "async") a b → SameLine b → Async (codes "async") a b

pub data Star : Text → Text → Text → Type 0 where
  no_star : {a : Text} → Star [] a a
  with_star : {a b : Text} → Sign (codes "*") a b → Star (codes "*") a b

pub data Static : Text → Text → Text → Type 0 where
  no_static : {a : Text} → Static [] a a
  with_static : {a b : Text} → Word (codes "static") a b → Static (codes "static") a b

-- the name of a function or class, or none
pub data Naming : Term → Text → Text → Type 0 where
  unnamed : {a : Text} → Naming absent a a
  named : {x a b : Text} → is_reserved x ≡ false → Word x a b → Naming (binding_of x) a b

-- `?.`, or nothing
pub data Optional : Bool → Text → Text → Type 0 where
  not_optional : {a : Text} → Optional false a a
  is_optional : {a b : Text} → Sign (codes "?.") a b → Optional true a b

-- `.`, or `?.`
pub data Dot : Bool → Text → Text → Type 0 where
  plain_dot : {a b : Text} → Sign (codes ".") a b → Dot false a b
  optional_dot : {a b : Text} → Sign (codes "?.") a b → Dot true a b

-- what is listed with commas between: `expression` is one of level 2, and its flag says whether a bare `in` may stand in
-- it; so it is with a declarator
pub data Sort : Type 0 where
  expression : Bool → Sort
  argument : Sort
  element : Sort
  property_item : Sort
  parameter : Sort
  binding_element : Sort
  binding_property : Sort
  target_element : Sort
  target_property : Sort
  declarator : Bool → Sort

abbrev pub is_several : List Term → Bool
is_several (e ∷ f ∷ es) = true
is_several es = false

mutual
  -- An expression of a level (13.2 to 13.15). The flag says whether a bare `in` may stand in it.
  pub data Stands : Bool → ℕ → Term → Text → Text → Type 0 where
    identifier : {i : Bool} {x a b : Text} → is_reserved x ≡ false → Word x a b → Stands i 21 (identifier_of x) a b
    this_expression : {i : Bool} {a b : Text} → Word (codes "this") a b → Stands i 21 (alone Kind.ThisExpression) a b
    null_literal : {i : Bool} {a b : Text} → Word (codes "null") a b → Stands i 21 (alone Kind.NullLiteral) a b
    boolean : {i : Bool} (v : Bool) {a b : Text} → Word (truth v) a b → Stands i 21 (boolean_of v) a b
    numeric : {i : Bool} {raw a b : Text} → Token a (number raw) b → Stands i 21 (number_of raw) a b
    bigint : {i : Bool} {raw a b : Text} → Token a (big_integer raw) b → Stands i 21 (of_text Kind.BigIntLiteral raw) a b
    string_literal : {i : Bool} {raw v a b : Text} → Token a (string raw v) b → Stands i 21 (string_of v) a b
    regexp_literal : {i : Bool} {pattern flags a b : Text} → Token a (regexp pattern flags) b → Stands i 21 (regexp_of pattern flags) a b
    template : {i : Bool} {qs es : List Term} {a b : Text} → Template true qs es a b → Stands i 21 (template_of qs es) a b
    -- [ es ]
    array : {i : Bool} {es : List Term} {a b c d : Text} → Sign (codes "[") a b → Group element es b c → Sign (codes "]") c d → Stands i 21 (array_of (all es)) a d
    -- { es }
    object : {i : Bool} {es : List Term} {a b c d : Text} → Sign (codes "{") a b → Group property_item es b c → Sign (codes "}") c d → Stands i 21 (object_of (all es)) a d
    function_expression : {i : Bool} {f : Term} {a b : Text} → FunctionText Kind.FunctionExpression f a b → Stands i 21 f a b
    class_expression : {i : Bool} {c : Term} {a b : Text} → ClassText Kind.ClassExpression c a b → Stands i 21 c a b
    -- ( e )
    parenthesized : {i : Bool} {e : Term} {a b c d : Text} → Sign (codes "(") a b → Expression true e b c → Sign (codes ")") c d → Stands i 21 (parenthesized_of e) a d
    import_meta : {i : Bool} {a b c d : Text} → Word (codes "import") a b → Sign (codes ".") b c → Word (codes "meta") c d → Stands i 21 (alone Kind.ImportMeta) a d
    new_target : {i : Bool} {a b c d : Text} → Word (codes "new") a b → Sign (codes ".") b c → Word (codes "target") c d → Stands i 21 (alone Kind.NewTarget) a d
    -- o.x, o[e], o.#x, and the same of `super` but for private names
    member : {i : Bool} {n : ℕ} {o e : Term} {a b c : Text} → 19 ≤ n → Stands i n o a b → Access false o e b c → Stands i (member_level n) e a c
    super_member : {i : Bool} {e : Term} {a b c : Text} → Word (codes "super") a b → Access false super_of e b c → is_private_member e ≡ false → Stands i 20 e a c
    -- a tag and a template
    tagged : {i : Bool} {n : ℕ} {t : Term} {qs es : List Term} {a b c : Text} → 19 ≤ n → Stands i n t a b → Template false qs es b c → Stands i (member_level n) (of_parts Kind.TaggedTemplateExpression t (template_of qs es)) a c
    -- new f(es)
    construction : {i : Bool} {n : ℕ} {f : Term} {es : List Term} {a b c d : Text} → Word (codes "new") a b → 20 ≤ n → Stands i n f b c → Arguments es c d → Stands i 20 (new_of f (all es)) a d
    -- new f
    bare_construction : {i : Bool} {e : Term} {a b : Text} → BareNew i e a b → Stands i 18 e a b
    -- f(es), super(es)
    call : {i : Bool} {n : ℕ} {f : Term} {es : List Term} {a b c : Text} → 19 ≤ n → Stands i n f a b → Arguments es b c → Stands i 19 (call_link false f (all es)) a c
    super_call : {i : Bool} {es : List Term} {a b c : Text} → Word (codes "super") a b → Arguments es b c → Stands i 19 (call_link false super_of (all es)) a c
    -- import(e), import(e, options)
    import_call : {i : Bool} {m : ℕ} {e o : Term} {a b c d f g : Text} → Word (codes "import") a b → Sign (codes "(") b c → Stands true m e c d → ImportOptions o d f → Sign (codes ")") f g → Stands i 19 (of_parts Kind.ImportExpression e o) a g
    -- an optional chain (13.3.9)
    chain : {i : Bool} {e : Term} {a b : Text} → Spine i e a b → Stands i 18 (of_part Kind.ChainExpression e) a b
    -- t++, ++t (13.4)
    update_behind : {i : Bool} {n : ℕ} {op : Text} {t : Term} {a b c : Text} → is_update op ≡ true → is_simple_target t ≡ true → Stands i n t a b → SameLine b → Sign op b c → Stands i 17 (update_of op false t) a c
    update_before : {i : Bool} {n : ℕ} {op : Text} {t : Term} {a b c : Text} → is_update op ≡ true → is_simple_target t ≡ true → Sign op a b → Stands i n t b c → Stands i 17 (update_of op true t) a c
    -- op e (13.5)
    unary : {i : Bool} {n : ℕ} {op : Text} {e : Term} {a b c : Text} → is_unary op ≡ true → 16 ≤ n → Operator op a b → Stands i n e b c → Stands i 16 (marked Kind.UnaryExpression op (one e)) a c
    await_expression : {i : Bool} {n : ℕ} {e : Term} {a b c : Text} → 16 ≤ n → Word (codes "await") a b → Stands i n e b c → Stands i 16 (await_of e) a c
    -- l ** r (13.6)
    exponentiation : {i : Bool} {m n : ℕ} {l r : Term} {a b c d : Text} → 17 ≤ m → 15 ≤ n → Stands i m l a b → Sign (codes "**") b c → Stands i n r c d → Stands i 15 (marked Kind.BinaryExpression (codes "**") (two l r)) a d
    -- l op r (13.7 to 13.12)
    binary : {i : Bool} {k m n : ℕ} {op : Text} {l r : Term} {a b c d : Text} → binary_level op ≡ Some k → not (is_text op (codes "in")) || i ≡ true → k ≤ m → suc k ≤ n → Stands i m l a b → Operator op b c → Stands i n r c d → Stands i k (marked Kind.BinaryExpression op (two l r)) a d
    -- #x in r (13.10)
    private_in : {n : ℕ} {x : Text} {r : Term} {a b c d : Text} → 12 ≤ n → Token a (private_name x) b → Word (codes "in") b c → Stands true n r c d → Stands true 11 (of_parts Kind.PrivateInExpression (private_of x) r) a d
    -- l && r, l || r, l ?? r (13.13)
    conjunction : {i : Bool} {m n : ℕ} {l r : Term} {a b c d : Text} → 6 ≤ m → 7 ≤ n → Stands i m l a b → Sign (codes "&&") b c → Stands i n r c d → Stands i 6 (marked Kind.LogicalExpression (codes "&&") (two l r)) a d
    disjunction : {i : Bool} {m n : ℕ} {l r : Term} {a b c d : Text} → 5 ≤ m → 6 ≤ n → Stands i m l a b → Sign (codes "||") b c → Stands i n r c d → Stands i 5 (marked Kind.LogicalExpression (codes "||") (two l r)) a d
    coalescing : {i : Bool} {m n : ℕ} {l r : Term} {a b c d : Text} → is_coalesce_left m ≡ true → 7 ≤ n → Stands i m l a b → Sign (codes "??") b c → Stands i n r c d → Stands i 4 (marked Kind.LogicalExpression (codes "??") (two l r)) a d
    -- t ? e : f (13.14)
    conditional : {i : Bool} {k m n : ℕ} {t e f : Term} {a b c d g h : Text} → 4 ≤ k → Stands i k t a b → Sign (codes "?") b c → Stands true m e c d → Sign (codes ":") d g → Stands i n f g h → Stands i 3 (node Kind.ConditionalExpression [] (three t e f)) a h
    -- t op e (13.15); a pattern stands before `=` alone
    assignment : {i : Bool} {n : ℕ} {op : Text} {t e : Term} {a b c d : Text} → is_one_of op assignment_operators ≡ true → is_simple_target t || is_text op (codes "=") ≡ true → Target i t a b → Sign op b c → Stands i n e c d → Stands i 2 (marked Kind.AssignmentExpression op (two t e)) a d
    -- ps => body (15.3, 15.9)
    arrow : {i : Bool} {async : Text} {ps body : Term} {a b c d : Text} → ArrowHead async ps a b → SameLine b → Sign (codes "=>") b c → ArrowBody i body c d → Stands i 2 (marked Kind.ArrowFunctionExpression async (two ps body)) a d
    -- yield, yield e, yield* e (15.5)
    bare_yield : {i : Bool} {a b : Text} → Word (codes "yield") a b → Stands i 2 (marked Kind.YieldExpression [] (one absent)) a b
    yielding : {i : Bool} {n : ℕ} {e : Term} {a b c : Text} → Word (codes "yield") a b → SameLine b → Stands i n e b c → Stands i 2 (marked Kind.YieldExpression [] (one e)) a c
    delegating : {i : Bool} {n : ℕ} {e : Term} {a b c d : Text} → Word (codes "yield") a b → SameLine b → Sign (codes "*") b c → Stands i n e c d → Stands i 2 (marked Kind.YieldExpression (codes "*") (one e)) a d

  -- Expression (13.16): one of level 2 or more, or several with commas between
  pub data Expression : Bool → Term → Text → Text → Type 0 where
    single : {i : Bool} {n : ℕ} {e : Term} {a b : Text} → Stands i n e a b → Expression i e a b
    sequence : {i : Bool} {es : List Term} {a b : Text} → is_several es ≡ true → Listed (expression i) es a b → Expression i (sequence_of (all es)) a b

  -- one item of a list
  pub data Item : Sort → Term → Text → Text → Type 0 where
    an_expression : {i : Bool} {n : ℕ} {e : Term} {a b : Text} → Stands i n e a b → Item (expression i) e a b
    an_argument : {n : ℕ} {e : Term} {a b : Text} → Stands true n e a b → Item argument e a b
    a_spread_argument : {e : Term} {a b : Text} → Spread e a b → Item argument e a b
    an_element : {n : ℕ} {e : Term} {a b : Text} → Stands true n e a b → Item element e a b
    a_spread_element : {e : Term} {a b : Text} → Spread e a b → Item element e a b
    an_elision : {a : Text} → Item element absent a a
    -- k: e
    a_property : {n : ℕ} {computed : Bool} {k e : Term} {a b c d : Text} → Key computed k a b → Sign (codes ":") b c → Stands true n e c d → Item property_item (property (codes "init") false false computed k e) a d
    -- x
    a_shorthand : {x a b : Text} → is_reserved x ≡ false → Word x a b → Item property_item (property (codes "init") false true false (name_of x) (identifier_of x)) a b
    a_method : {computed : Bool} {k f : Term} {a b : Text} → Method (codes "method") computed k f a b → no_private k ≡ true → Item property_item (property (codes "init") true false computed k f) a b
    an_accessor : {kind : Text} {computed : Bool} {k f : Term} {a b : Text} → Accessor kind computed k f a b → no_private k ≡ true → Item property_item (property kind false false computed k f) a b
    a_spread_property : {e : Term} {a b : Text} → Spread e a b → Item property_item e a b
    -- p, p = e
    a_parameter : {p : Term} {a b : Text} → Pattern p a b → Item parameter (parameter_of p absent) a b
    an_optional_parameter : {n : ℕ} {p e : Term} {a b c d : Text} → Pattern p a b → Sign (codes "=") b c → Stands true n e c d → Item parameter (parameter_of p e) a d
    a_binding : {p : Term} {a b : Text} → Defaulted p a b → Item binding_element p a b
    a_hole : {a : Text} → Item binding_element absent a a
    -- k: p, x, x = e
    a_binding_pair : {computed : Bool} {k p : Term} {a b c d : Text} → Key computed k a b → Sign (codes ":") b c → Defaulted p c d → Item binding_property (pair_of Kind.BindingProperty computed false k p) a d
    a_binding_shorthand : {x a b : Text} → is_reserved x ≡ false → Word x a b → Item binding_property (pair_of Kind.BindingProperty false true (name_of x) (binding_of x)) a b
    a_binding_default : {n : ℕ} {x a b c d : Text} {e : Term} → is_reserved x ≡ false → Word x a b → Sign (codes "=") b c → Stands true n e c d → Item binding_property (pair_of Kind.BindingProperty false true (name_of x) (of_parts Kind.AssignmentPattern (binding_of x) e)) a d
    a_target : {t : Term} {a b : Text} → DefaultedTarget t a b → Item target_element t a b
    a_target_hole : {a : Text} → Item target_element absent a a
    a_target_pair : {computed : Bool} {k t : Term} {a b c d : Text} → Key computed k a b → Sign (codes ":") b c → DefaultedTarget t c d → Item target_property (pair_of Kind.AssignmentTargetProperty computed false k t) a d
    a_target_shorthand : {x a b : Text} → is_reserved x ≡ false → Word x a b → Item target_property (pair_of Kind.AssignmentTargetProperty false true (name_of x) (identifier_of x)) a b
    a_target_default : {n : ℕ} {x a b c d : Text} {e : Term} → is_reserved x ≡ false → Word x a b → Sign (codes "=") b c → Stands true n e c d → Item target_property (pair_of Kind.AssignmentTargetProperty false true (name_of x) (of_parts Kind.AssignmentTargetWithDefault (identifier_of x) e)) a d
    -- p, p = e (14.3)
    a_declarator : {i : Bool} {p : Term} {a b : Text} → Pattern p a b → Item (declarator i) (declarator_of p absent) a b
    an_initialized : {i : Bool} {n : ℕ} {p e : Term} {a b c d : Text} → Pattern p a b → Sign (codes "=") b c → Stands i n e c d → Item (declarator i) (declarator_of p e) a d

  -- one item, or several with commas between
  pub data Listed : Sort → List Term → Text → Text → Type 0 where
    last : {s : Sort} {e : Term} {a b : Text} → Item s e a b → Listed s (e ∷ []) a b
    and : {s : Sort} {e : Term} {es : List Term} {a b c d : Text} → Item s e a b → Sign (codes ",") b c → Listed s es c d → Listed s (e ∷ es) a d

  -- None, or such a list, behind which a comma may stand. Behind an elision or a hole it has to.
  pub data Group : Sort → List Term → Text → Text → Type 0 where
    no_items : {s : Sort} {a : Text} → Group s [] a a
    items : {s : Sort} {es : List Term} {a b : Text} → last_absent es ≡ false → Listed s es a b → Group s es a b
    trailing : {s : Sort} {es : List Term} {a b c : Text} → Listed s es a b → Sign (codes ",") b c → Group s es a c

  -- a list that may end in a rest, behind which no comma stands; the flag allows one behind the items
  pub data Rested : Bool → Sort → List Term → Term → Text → Text → Type 0 where
    no_rest : {s : Sort} {es : List Term} {a b : Text} → Group s es a b → Rested true s es absent a b
    no_rest_closed : {s : Sort} {es : List Term} {a b : Text} → last_absent es ≡ false → Listed s es a b → Rested false s es absent a b
    nothing : {s : Sort} {a : Text} → Rested false s [] absent a a
    rest_alone : {t : Bool} {s : Sort} {r : Term} {a b : Text} → Rest s r a b → Rested t s [] r a b
    and_rest : {t : Bool} {s : Sort} {es : List Term} {r : Term} {a b c d : Text} → Listed s es a b → Sign (codes ",") b c → Rest s r c d → Rested t s es r a d

  -- ...p; in an object pattern a name, in an object target no pattern (14.3.3, 13.15.5.1)
  pub data Rest : Sort → Term → Text → Text → Type 0 where
    rest_parameter : {p : Term} {a b c : Text} → Sign (codes "...") a b → Pattern p b c → Rest parameter (of_part Kind.FormalParameterRest (of_part Kind.BindingRestElement p)) a c
    rest_binding : {p : Term} {a b c : Text} → Sign (codes "...") a b → Pattern p b c → Rest binding_element (of_part Kind.BindingRestElement p) a c
    rest_properties : {x a b c : Text} → is_reserved x ≡ false → Sign (codes "...") a b → Word x b c → Rest binding_property (of_part Kind.BindingRestElement (binding_of x)) a c
    rest_target : {t : Term} {a b c : Text} → Sign (codes "...") a b → Target true t b c → Rest target_element (of_part Kind.AssignmentTargetRest t) a c
    rest_target_properties : {t : Term} {a b c : Text} → is_simple_target t ≡ true → Sign (codes "...") a b → Target true t b c → Rest target_property (of_part Kind.AssignmentTargetRest t) a c

  -- ...e
  pub data Spread : Term → Text → Text → Type 0 where
    spread : {n : ℕ} {e : Term} {a b c : Text} → Sign (codes "...") a b → Stands true n e b c → Spread (of_part Kind.SpreadElement e) a c

  -- ( es ) (13.3)
  pub data Arguments : List Term → Text → Text → Type 0 where
    arguments : {es : List Term} {a b c d : Text} → Sign (codes "(") a b → Group argument es b c → Sign (codes ")") c d → Arguments es a d

  -- the second argument of an import, or none
  pub data ImportOptions : Term → Text → Text → Type 0 where
    no_options : {a : Text} → ImportOptions absent a a
    no_options_comma : {a b : Text} → Sign (codes ",") a b → ImportOptions absent a b
    options : {n : ℕ} {e : Term} {a b c : Text} → Sign (codes ",") a b → Stands true n e b c → ImportOptions e a c
    options_comma : {n : ℕ} {e : Term} {a b c d : Text} → Sign (codes ",") a b → Stands true n e b c → Sign (codes ",") c d → ImportOptions e a d

  -- the member of an object: .x, [e] or .#x, behind `?.` in its stead where the link is optional
  pub data Access : Bool → Term → Term → Text → Text → Type 0 where
    static_access : {optional : Bool} {o : Term} {x a b c : Text} → Dot optional a b → Word x b c → Access optional o (static_link optional o x) a c
    computed_access : {optional : Bool} {o e : Term} {a b c d f : Text} → Optional optional a b → Sign (codes "[") b c → Expression true e c d → Sign (codes "]") d f → Access optional o (computed_link optional o e) a f
    private_access : {optional : Bool} {o : Term} {x a b c : Text} → Dot optional a b → Token b (private_name x) c → Access optional o (private_link optional o x) a c

  -- a link of a chain: a member or a call
  pub data Link : Bool → Term → Term → Text → Text → Type 0 where
    access_link : {optional : Bool} {o e : Term} {a b : Text} → Access optional o e a b → Link optional o e a b
    argument_link : {optional : Bool} {o : Term} {es : List Term} {a b c : Text} → Optional optional a b → Arguments es b c → Link optional o (call_link optional o (all es)) a c

  -- The spine of a chain: its first link is optional, and further links of either sort follow.
  pub data Spine : Bool → Term → Text → Text → Type 0 where
    first_link : {i : Bool} {n : ℕ} {o e : Term} {a b c : Text} → 19 ≤ n → Stands i n o a b → Link true o e b c → Spine i e a c
    next_link : {i : Bool} {optional : Bool} {o e : Term} {a b c : Text} → Spine i o a b → Link optional o e b c → Spine i e a c

  -- `new` without arguments (13.3.5)
  pub data BareNew : Bool → Term → Text → Text → Type 0 where
    new_member : {i : Bool} {n : ℕ} {f : Term} {a b c : Text} → Word (codes "new") a b → 20 ≤ n → Stands i n f b c → BareNew i (new_of f none) a c
    new_new : {i : Bool} {f : Term} {a b c : Text} → Word (codes "new") a b → BareNew i f b c → BareNew i (new_of f none) a c

  -- A template's texts and expressions (13.2.8). The flag asks for sound escapes, which a template without a tag has.
  pub data Template : Bool → List Term → List Term → Text → Text → Type 0 where
    whole_template : {sound : Bool} {raw a b : Text} → not sound || has_sound_escapes raw ≡ true → Token a (no_substitution raw) b → Template sound (of_text Kind.TemplateElement raw ∷ []) [] a b
    template_parts : {sound : Bool} {raw a b c d : Text} {e : Term} {qs es : List Term} → not sound || has_sound_escapes raw ≡ true → Token a (template_head raw) b → Expression true e b c → TemplateRest sound qs es c d → Template sound (of_text Kind.TemplateElement raw ∷ qs) (e ∷ es) a d

  pub data TemplateRest : Bool → List Term → List Term → Text → Text → Type 0 where
    template_end : {sound : Bool} {raw a b : Text} → not sound || has_sound_escapes raw ≡ true → Token a (template_tail raw) b → TemplateRest sound (of_text Kind.TemplateElement raw ∷ []) [] a b
    template_more : {sound : Bool} {raw a b c d : Text} {e : Term} {qs es : List Term} → not sound || has_sound_escapes raw ≡ true → Token a (template_middle raw) b → Expression true e b c → TemplateRest sound qs es c d → TemplateRest sound (of_text Kind.TemplateElement raw ∷ qs) (e ∷ es) a d

  -- a property's key (13.2.5); the flag says whether it stands in brackets
  pub data Key : Bool → Term → Text → Text → Type 0 where
    name_key : {x a b : Text} → Word x a b → Key false (name_of x) a b
    string_key : {raw v a b : Text} → Token a (string raw v) b → Key false (string_of v) a b
    number_key : {raw a b : Text} → Token a (number raw) b → Key false (number_of raw) a b
    bigint_key : {raw a b : Text} → Token a (big_integer raw) b → Key false (of_text Kind.BigIntLiteral raw) a b
    computed_key : {n : ℕ} {e : Term} {a b c d : Text} → Sign (codes "[") a b → Stands true n e b c → Sign (codes "]") c d → Key true e a d

  -- a key of a class element, which may be private
  pub data MemberKey : Bool → Term → Text → Text → Type 0 where
    public_key : {computed : Bool} {k : Term} {a b : Text} → Key computed k a b → MemberKey computed k a b
    private_key : {x a b : Text} → Token a (private_name x) b → MemberKey false (private_of x) a b

  -- async *k(ps) { ss } (15.4)
  pub data Method : Text → Bool → Term → Term → Text → Text → Type 0 where
    method : {async star : Text} {computed : Bool} {k f : Term} {a b c d g : Text} → Async async a b → Star star b c → MemberKey computed k c d → MethodFunction true async star f d g → Method (codes "method") computed k f a g

  -- get k() { ss }, set k(p) { ss }
  pub data Accessor : Text → Bool → Term → Term → Text → Text → Type 0 where
    getter : {computed : Bool} {k f : Term} {a b c d : Text} → Word (codes "get") a b → MemberKey computed k b c → MethodFunction true [] [] f c d → Accessor (codes "get") computed k f a d
    setter : {computed : Bool} {k f : Term} {a b c d : Text} → Word (codes "set") a b → MemberKey computed k b c → MethodFunction false [] [] f c d → Accessor (codes "set") computed k f a d

  -- the parameters and the body of a method; the flag allows a comma behind the parameters
  pub data MethodFunction : Bool → Text → Text → Term → Text → Text → Type 0 where
    method_function : {t : Bool} {async star : Text} {ps body : Term} {a b c : Text} → Parameters t ps a b → Body body b c → MethodFunction t async star (function_node Kind.FunctionExpression async star absent ps body) a c

  -- ( ps ) (15.1)
  pub data Parameters : Bool → Term → Text → Text → Type 0 where
    parameters : {t : Bool} {ps : List Term} {r : Term} {a b c d : Text} → Sign (codes "(") a b → Rested t parameter ps r b c → Sign (codes ")") c d → Parameters t (rested Kind.FormalParameters ps r) a d

  -- async function* x(ps) { ss } (15.2, 15.5, 15.6, 15.8)
  pub data FunctionText : Kind → Term → Text → Text → Type 0 where
    function : {k : Kind} {async star : Text} {id ps body : Term} {a b c d e f g : Text} → Async async a b → Word (codes "function") b c → Star star c d → Naming id d e → Parameters true ps e f → Body body f g → FunctionText k (function_node k async star id ps body) a g

  -- { ds ss }: directives, then statements of which the first is no string token alone (15.2, 11.2.1)
  pub data Body : Term → Text → Text → Type 0 where
    body : {ds ss : List Term} {a b c d e : Text} → begins_with_string ss ≡ false → Sign (codes "{") a b → Directives ds b c → Statements ss c d → Sign (codes "}") d e → Body (body_node ds ss) a e

  -- a directive is seen as it is written
  pub data Directives : List Term → Text → Text → Type 0 where
    no_directives : {a : Text} → Directives [] a a
    directive : {raw v a b c d : Text} {ds : List Term} → Token a (string raw v) b → Semicolon full b c → Directives ds c d → Directives (of_text Kind.Directive raw ∷ ds) a d

  -- what stands before the `=>`: a list in parentheses, or one name (15.3, 15.9)
  pub data ArrowHead : Text → Term → Text → Text → Type 0 where
    arrow_parameters : {ps : Term} {a b : Text} → Parameters true ps a b → ArrowHead [] ps a b
    arrow_name : {x a b : Text} → is_reserved x ≡ false → Word x a b → ArrowHead [] (rested Kind.FormalParameters (parameter_of (binding_of x) absent ∷ []) absent) a b
    arrow_async : {ps : Term} {a b c : Text} → Word (codes "async") a b → SameLine b → ArrowHead [] ps b c → ArrowHead (codes "async") ps a c

  pub data ArrowBody : Bool → Term → Text → Text → Type 0 where
    block_body : {i : Bool} {body : Term} {a b : Text} → Body body a b → ArrowBody i body a b
    concise_body : {i : Bool} {n : ℕ} {e : Term} {a b : Text} → begins_with_brace e ≡ false → Stands i n e a b → ArrowBody i e a b

  -- class x extends e { es } (15.7)
  pub data ClassText : Kind → Term → Text → Text → Type 0 where
    class : {k : Kind} {id h : Term} {es : List Term} {a b c d e f g : Text} → Word (codes "class") a b → Naming id b c → Heritage h c d → Sign (codes "{") d e → Elements es e f → Sign (codes "}") f g → ClassText k (class_node k id h es) a g

  pub data Heritage : Term → Text → Text → Type 0 where
    no_heritage : {a : Text} → Heritage absent a a
    heritage : {n : ℕ} {e : Term} {a b c : Text} → Word (codes "extends") a b → 18 ≤ n → Stands true n e b c → Heritage e a c

  pub data Elements : List Term → Text → Text → Type 0 where
    no_elements : {a : Text} → Elements [] a a
    lone_semicolon : {es : List Term} {a b c : Text} → Sign (codes ";") a b → Elements es b c → Elements es a c
    next_element : {e : Term} {es : List Term} {a b c : Text} → ClassElement e a b → Elements es b c → Elements (e ∷ es) a c

  pub data ClassElement : Term → Text → Text → Type 0 where
    -- static { ss }
    static_block : {ss : List Term} {a b c d e : Text} → Word (codes "static") a b → Sign (codes "{") b c → Statements ss c d → Sign (codes "}") d e → ClassElement (of_list Kind.StaticBlock (all ss)) a e
    -- constructor(ps) { ss }
    constructor_element : {k f : Term} {a b c : Text} → is_constructor [] false k ≡ true → MemberKey false k a b → MethodFunction true [] [] f b c → ClassElement (method_node (codes "constructor") false [] k f) a c
    method_element : {static : Text} {computed : Bool} {k f : Term} {a b c : Text} → is_constructor static computed k ≡ false → Static static a b → Method (codes "method") computed k f b c → ClassElement (method_node (codes "method") computed static k f) a c
    accessor_element : {static kind : Text} {computed : Bool} {k f : Term} {a b c : Text} → is_constructor static computed k ≡ false → Static static a b → Accessor kind computed k f b c → ClassElement (method_node kind computed static k f) a c
    -- k = e;
    field_element : {static : Text} {computed : Bool} {k v : Term} {a b c d e : Text} → Static static a b → MemberKey computed k b c → Initializer v c d → Semicolon (field_edge static computed k v) d e → ClassElement (field_node computed static k v) a e

  -- = e, or nothing
  pub data Initializer : Term → Text → Text → Type 0 where
    no_initializer : {a : Text} → Initializer absent a a
    initializer : {n : ℕ} {e : Term} {a b c : Text} → Sign (codes "=") a b → Stands true n e b c → Initializer e a c

  -- BindingPattern, or a name that is bound (14.3.3)
  pub data Pattern : Term → Text → Text → Type 0 where
    binding : {x a b : Text} → is_reserved x ≡ false → Word x a b → Pattern (binding_of x) a b
    object_pattern : {ps : List Term} {r : Term} {a b c d : Text} → Sign (codes "{") a b → Rested true binding_property ps r b c → Sign (codes "}") c d → Pattern (rested Kind.ObjectPattern ps r) a d
    array_pattern : {ps : List Term} {r : Term} {a b c d : Text} → Sign (codes "[") a b → Rested true binding_element ps r b c → Sign (codes "]") c d → Pattern (rested Kind.ArrayPattern ps r) a d

  -- p, p = e
  pub data Defaulted : Term → Text → Text → Type 0 where
    not_defaulted : {p : Term} {a b : Text} → Pattern p a b → Defaulted p a b
    defaulted : {n : ℕ} {p e : Term} {a b c d : Text} → Pattern p a b → Sign (codes "=") b c → Stands true n e c d → Defaulted (of_parts Kind.AssignmentPattern p e) a d

  -- AssignmentTarget (13.15): an identifier, a member or a pattern of targets
  pub data Target : Bool → Term → Text → Text → Type 0 where
    simple_target : {i : Bool} {n : ℕ} {t : Term} {a b : Text} → is_simple_target t ≡ true → Stands i n t a b → Target i t a b
    object_target : {i : Bool} {ps : List Term} {r : Term} {a b c d : Text} → Sign (codes "{") a b → Rested true target_property ps r b c → Sign (codes "}") c d → Target i (rested Kind.ObjectAssignmentTarget ps r) a d
    array_target : {i : Bool} {ps : List Term} {r : Term} {a b c d : Text} → Sign (codes "[") a b → Rested true target_element ps r b c → Sign (codes "]") c d → Target i (rested Kind.ArrayAssignmentTarget ps r) a d

  pub data DefaultedTarget : Term → Text → Text → Type 0 where
    target_alone : {t : Term} {a b : Text} → Target true t a b → DefaultedTarget t a b
    target_default : {n : ℕ} {t e : Term} {a b c d : Text} → Target true t a b → Sign (codes "=") b c → Stands true n e c d → DefaultedTarget (of_parts Kind.AssignmentTargetWithDefault t e) a d

  -- statements (14)
  pub data Statements : List Term → Text → Text → Type 0 where
    no_statements : {a : Text} → Statements [] a a
    next_statement : {s : Term} {ss : List Term} {a b c : Text} → Statement s a b → Statements ss b c → Statements (s ∷ ss) a c

  pub data Block : Term → Text → Text → Type 0 where
    block : {ss : List Term} {a b c d : Text} → Sign (codes "{") a b → Statements ss b c → Sign (codes "}") c d → Block (block_of ss) a d

  -- a statement that is the body of another
  pub data Embedded : Term → Text → Text → Type 0 where
    embedded : {s : Term} {a b : Text} → is_body s ≡ true → Statement s a b → Embedded s a b

  pub data Statement : Term → Text → Text → Type 0 where
    block_statement : {s : Term} {a b : Text} → Block s a b → Statement s a b
    declaration : {s : Term} {a b : Text} → Declaration s a b → Statement s a b
    empty_statement : {a b : Text} → Sign (codes ";") a b → Statement (alone Kind.EmptyStatement) a b
    expression_statement : {e : Term} {a b c : Text} → begins_with_brace e || begins_with_definition e ≡ false → Expression true e a b → Semicolon (edge e) b c → Statement (statement_of e) a c
    if_statement : {e s : Term} {a b c d f g : Text} → Word (codes "if") a b → Sign (codes "(") b c → Expression true e c d → Sign (codes ")") d f → Embedded s f g → Statement (if_of e s absent) a g
    if_else : {e s t : Term} {a b c d f g h j : Text} → ends_open s ≡ false → Word (codes "if") a b → Sign (codes "(") b c → Expression true e c d → Sign (codes ")") d f → Embedded s f g → Word (codes "else") g h → Embedded t h j → Statement (if_of e s t) a j
    do_while : {e s : Term} {a b c d f g h j : Text} → Word (codes "do") a b → Embedded s b c → Word (codes "while") c d → Sign (codes "(") d f → Expression true e f g → Sign (codes ")") g h → DoEnd h j → Statement (of_parts Kind.DoWhileStatement s e) a j
    while_statement : {e s : Term} {a b c d f g : Text} → Word (codes "while") a b → Sign (codes "(") b c → Expression true e c d → Sign (codes ")") d f → Embedded s f g → Statement (of_parts Kind.WhileStatement e s) a g
    for_statement : {init test update s : Term} {a b c d e f g h j k : Text} → Word (codes "for") a b → Sign (codes "(") b c → ForInit init c d → Sign (codes ";") d e → Perhaps test e f → Sign (codes ";") f g → Perhaps update g h → Sign (codes ")") h j → Embedded s j k → Statement (for_of init test update s) a k
    for_in : {left right s : Term} {a b c d e f g h : Text} → Word (codes "for") a b → Sign (codes "(") b c → ForLeft left c d → Word (codes "in") d e → Expression true right e f → Sign (codes ")") f g → Embedded s g h → Statement (for_each Kind.ForInStatement [] left right s) a h
    for_of_statement : {n : ℕ} {left right s : Term} {a b c d e f g h : Text} → is_named (codes "async") left ≡ false → Word (codes "for") a b → Sign (codes "(") b c → ForLeft left c d → Word (codes "of") d e → Stands true n right e f → Sign (codes ")") f g → Embedded s g h → Statement (for_each Kind.ForOfStatement ([] ∷ []) left right s) a h
    for_await : {n : ℕ} {left right s : Term} {a b c d e f g h j : Text} → Word (codes "for") a b → Word (codes "await") b c → Sign (codes "(") c d → ForLeft left d e → Word (codes "of") e f → Stands true n right f g → Sign (codes ")") g h → Embedded s h j → Statement (for_each Kind.ForOfStatement (codes "await" ∷ []) left right s) a j
    continue_statement : {l : Term} {a b c d : Text} → Word (codes "continue") a b → Label l b c → Semicolon plain c d → Statement (of_part Kind.ContinueStatement l) a d
    break_statement : {l : Term} {a b c d : Text} → Word (codes "break") a b → Label l b c → Semicolon plain c d → Statement (of_part Kind.BreakStatement l) a d
    bare_return : {a b c : Text} → Word (codes "return") a b → Semicolon plain b c → Statement (return_of absent) a c
    return_statement : {e : Term} {a b c d : Text} → Word (codes "return") a b → SameLine b → Expression true e b c → Semicolon (edge e) c d → Statement (return_of e) a d
    switch_statement : {e : Term} {cs : List Term} {a b c d f g h j : Text} → is_switch (two e (list (all cs))) ≡ true → Word (codes "switch") a b → Sign (codes "(") b c → Expression true e c d → Sign (codes ")") d f → Sign (codes "{") f g → Cases cs g h → Sign (codes "}") h j → Statement (of_parts Kind.SwitchStatement e (list (all cs))) a j
    labeled : {x : Text} {s : Term} {a b c d : Text} → is_reserved x ≡ false → Word x a b → Sign (codes ":") b c → Embedded s c d → Statement (of_parts Kind.LabeledStatement (label_of x) s) a d
    throw_statement : {e : Term} {a b c d : Text} → Word (codes "throw") a b → SameLine b → Expression true e b c → Semicolon (edge e) c d → Statement (of_part Kind.ThrowStatement e) a d
    try_statement : {s h f : Term} {a b c d e : Text} → is_try (three s h f) ≡ true → Word (codes "try") a b → Block s b c → Handler h c d → Finalizer f d e → Statement (try_of s h f) a e
    debugger : {a b c : Text} → Word (codes "debugger") a b → Semicolon plain b c → Statement (alone Kind.DebuggerStatement) a c

  -- declarations (14.3.1, 14.3.2, 15.2, 15.7)
  pub data Declaration : Term → Text → Text → Type 0 where
    variables : {kind : Text} {ds : List Term} {a b c : Text} → Variables true kind ds a b → Semicolon (declared_edge ds) b c → Declaration (variables_of kind ds) a c
    function_declaration : {f : Term} {a b : Text} → is_unnamed f ≡ false → FunctionText Kind.FunctionDeclaration f a b → Declaration f a b
    class_declaration : {c : Term} {a b : Text} → is_unnamed c ≡ false → ClassText Kind.ClassDeclaration c a b → Declaration c a b

  -- var ds, let ds, const ds, without the semicolon
  pub data Variables : Bool → Text → List Term → Text → Text → Type 0 where
    declarators : {i : Bool} {kind : Text} {ds : List Term} {a b c : Text} → is_one_of kind (codes "var" ∷ codes "let" ∷ codes "const" ∷ []) ≡ true → Word kind a b → Listed (declarator i) ds b c → Variables i kind ds a c

  -- an expression, or nothing
  pub data Perhaps : Term → Text → Text → Type 0 where
    perhaps_not : {a : Text} → Perhaps absent a a
    perhaps : {e : Term} {a b : Text} → Expression true e a b → Perhaps e a b

  -- the first part of a `for` (14.7.4), in which no bare `in` stands
  pub data ForInit : Term → Text → Text → Type 0 where
    no_init : {a : Text} → ForInit absent a a
    init_variables : {kind : Text} {ds : List Term} {a b : Text} → Variables false kind ds a b → ForInit (variables_of kind ds) a b
    init_expression : {e : Term} {a b : Text} → Expression false e a b → ForInit e a b

  -- what is assigned in turn (14.7.5): one pattern that is declared, or a target
  pub data ForLeft : Term → Text → Text → Type 0 where
    left_variable : {kind : Text} {p : Term} {a b c : Text} → is_one_of kind (codes "var" ∷ codes "let" ∷ codes "const" ∷ []) ≡ true → Word kind a b → Pattern p b c → ForLeft (variables_of kind (declarator_of p absent ∷ [])) a c
    left_target : {t : Term} {a b : Text} → Target false t a b → ForLeft t a b

  -- the label of a `break` or `continue`, or none; no line end stands before it (14.8, 14.9)
  pub data Label : Term → Text → Text → Type 0 where
    no_label : {a : Text} → Label absent a a
    a_label : {x a b : Text} → is_reserved x ≡ false → SameLine a → Word x a b → Label (label_of x) a b

  pub data Cases : List Term → Text → Text → Type 0 where
    no_cases : {a : Text} → Cases [] a a
    next_case : {e : Term} {ss cs : List Term} {a b c d f g : Text} → Word (codes "case") a b → Expression true e b c → Sign (codes ":") c d → Statements ss d f → Cases cs f g → Cases (case_of e ss ∷ cs) a g
    default_case : {ss cs : List Term} {a b c d f : Text} → Word (codes "default") a b → Sign (codes ":") b c → Statements ss c d → Cases cs d f → Cases (case_of absent ss ∷ cs) a f

  -- catch (p) { ss }, catch { ss }, or nothing (14.15)
  pub data Handler : Term → Text → Text → Type 0 where
    no_handler : {a : Text} → Handler absent a a
    bare_handler : {s : Term} {a b c : Text} → Word (codes "catch") a b → Block s b c → Handler (of_parts Kind.CatchClause absent s) a c
    handler : {p s : Term} {a b c d e f : Text} → Word (codes "catch") a b → Sign (codes "(") b c → Pattern p c d → Sign (codes ")") d e → Block s e f → Handler (of_parts Kind.CatchClause (of_part Kind.CatchParameter p) s) a f

  pub data Finalizer : Term → Text → Text → Type 0 where
    no_finalizer : {a : Text} → Finalizer absent a a
    finalizer : {s : Term} {a b c : Text} → Word (codes "finally") a b → Block s b c → Finalizer s a c
