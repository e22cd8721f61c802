-- Which text spells which module: the grammar of ECMAScript 13 to 16 as far as small modules and the runner's
-- forms need it, one constructor for each row. Each relation holds between a part of a tree, a text at whose
-- front the part stands behind a gap, and the rest that it leaves. Every semicolon is written, and there are no
-- trailing commas and no comments. Which further forms the language has, later constructors say.
use Rattle.std.specs.Prelude.{◌≡◌, ◌≤◌, ℕ, List, [], ◌∷◌, Bool, true, false, cond, nat_eq, codes}
use Rattle.js_term.specs.Term.{Text, Term, absent, list, node, Terms, none, more, all}
use Rattle.js_term.specs.declared.kind.Kind.{Kind}
use Rattle.js_term.specs.declared.kind.Kind.TheVariants as Kind
use Rattle.js_term.specs.Lexeme.{Manner, Token, AtEnd, word, number, string, left_brace, right_brace, left_paren, right_paren, left_bracket, right_bracket, comma, semicolon, dot, colon, equals, is_reserved, same_line, opens_otherwise}
use Rattle.js_term.specs.Node.{identifier_of, string_of, number_of, truth, boolean_of, call_of, member_of, sequence_of, await_of, array_of, object_of, parenthesized_of, property_of, method_property_of, function_of, const_of, return_of, statement_of, specifier_of, import_declaration_of, export_declaration_of, program_of}

-- The level of an expression: how tightly it binds. A part stands at a place of level n only if its own level is
-- n or more; a looser one stands there in parentheses.
abbrev pub level_by : Kind → ℕ → ℕ
level_by Kind.SequenceExpression n = 1
level_by Kind.AwaitExpression n = 16
level_by Kind.CallExpression n = 19
level_by Kind.StaticMemberExpression n = cond (nat_eq n 19) 19 20
level_by k n = 21

abbrev mutual
  pub level : Term → ℕ
  level absent = 0
  level (list ts) = 0
  level (node k texts ts) = level_by k (level_first ts)

  pub level_first : Terms → ℕ
  level_first none = 0
  level_first (more t ts) = level t

-- one expression of level 2, or several with commas between (13.16)
abbrev pub joined : List Term → Term
joined (e ∷ []) = e
joined es = sequence_of (all es)

abbrev pub is_kind_of_string : Kind → Bool
is_kind_of_string Kind.StringLiteral = true
is_kind_of_string k = false

abbrev pub is_string_literal : Term → Bool
is_string_literal (node k texts ts) = is_kind_of_string k
is_string_literal t = false

-- FormalParameters (15.1): plain names with commas between, or none
mutual
  pub data Names (m : Manner) : List Text → Text → Text → Type 0 where
    last_name : {x a b : Text} → is_reserved x ≡ false → Token m a (word x) b → Names m (x ∷ []) a b
    and_name : {x : Text} {xs : List Text} {a b c d : Text} → is_reserved x ≡ false → Token m a (word x) b → Token m b comma c → Names m xs c d → Names m (x ∷ xs) a d

pub data Parameters (m : Manner) : List Text → Text → Text → Type 0 where
  no_names : {a : Text} → Parameters m [] a a
  names : {xs : List Text} {a b : Text} → Names m xs a b → Parameters m xs a b

mutual
  -- an expression of level 2 or more (13.2 to 13.15)
  pub data Stands (m : Manner) : Term → Text → Text → Type 0 where
    identifier : {x a b : Text} → is_reserved x ≡ false → Token m a (word x) b → Stands m (identifier_of x) a b
    boolean : (v : Bool) {a b : Text} → Token m a (word (truth v)) b → Stands m (boolean_of v) a b
    numeric : {x a b : Text} → Token m a (number x) b → Stands m (number_of x) a b
    string_literal : {v a b : Text} → Token m a (string v) b → Stands m (string_of v) a b
    -- ( es )
    parenthesized : {es : List Term} {a b c d : Text} → Token m a left_paren b → Listed m es b c → Token m c right_paren d → Stands m (parenthesized_of (joined es)) a d
    -- f(es)
    call : {f : Term} {es : List Term} {a b c d e : Text} → 19 ≤ level f → Stands m f a b → Token m b left_paren c → Group m es c d → Token m d right_paren e → Stands m (call_of f (all es)) a e
    -- o.x
    member : {o : Term} {x a b c d : Text} → 19 ≤ level o → Stands m o a b → Token m b dot c → Token m c (word x) d → Stands m (member_of o x) a d
    -- await e
    await_expression : {e : Term} {a b c : Text} → 16 ≤ level e → Token m a (word (codes "await")) b → Stands m e b c → Stands m (await_of e) a c
    -- [ es ]
    array : {es : List Term} {a b c d : Text} → Token m a left_bracket b → Group m es b c → Token m c right_bracket d → Stands m (array_of (all es)) a d
    -- { es }
    object : {es : List Term} {a b c d : Text} → Token m a left_brace b → Properties m es b c → Token m c right_brace d → Stands m (object_of (all es)) a d

  -- one or more expressions of level 2, with commas between
  pub data Listed (m : Manner) : List Term → Text → Text → Type 0 where
    last : {e : Term} {a b : Text} → 2 ≤ level e → Stands m e a b → Listed m (e ∷ []) a b
    and : {e : Term} {es : List Term} {a b c d : Text} → 2 ≤ level e → Stands m e a b → Token m b comma c → Listed m es c d → Listed m (e ∷ es) a d

  -- arguments or elements (13.3, 13.2.4): none, or such a list
  pub data Group (m : Manner) : List Term → Text → Text → Type 0 where
    no_items : {a : Text} → Group m [] a a
    some_items : {es : List Term} {a b : Text} → Listed m es a b → Group m es a b

  -- the properties of an object literal (13.2.5)
  pub data Properties (m : Manner) : List Term → Text → Text → Type 0 where
    no_properties : {a : Text} → Properties m [] a a
    last_property : {p : Term} {a b : Text} → Property m p a b → Properties m (p ∷ []) a b
    and_property : {p q : Term} {ps : List Term} {a b c d : Text} → Property m p a b → Token m b comma c → Properties m (q ∷ ps) c d → Properties m (p ∷ q ∷ ps) a d

  pub data Property (m : Manner) : Term → Text → Text → Type 0 where
    -- x: e
    init : {x : Text} {e : Term} {a b c d : Text} → 2 ≤ level e → Token m a (word x) b → Token m b colon c → Stands m e c d → Property m (property_of x e) a d
    -- x(xs) { ss }
    method : {x : Text} {xs : List Text} {ss : List Term} {a b c d e f : Text} → Token m a (word x) b → Token m b left_paren c → Parameters m xs c d → Token m d right_paren e → Body m ss e f → Property m (method_property_of x xs (all ss)) a f

  -- FunctionBody in its braces (15.2), without directives
  pub data Body (m : Manner) : List Term → Text → Text → Type 0 where
    body : {ss : List Term} {a b c d : Text} → Token m a left_brace b → Statements m ss b c → Token m c right_brace d → Body m ss a d

  pub data Statements (m : Manner) : List Term → Text → Text → Type 0 where
    no_statements : {a : Text} → Statements m [] a a
    next_statement : {s : Term} {ss : List Term} {a b c : Text} → Statement m s a b → Statements m ss b c → Statements m (s ∷ ss) a c

  pub data Statement (m : Manner) : Term → Text → Text → Type 0 where
    declaration : {s : Term} {a b : Text} → Declaration m s a b → Statement m s a b
    -- return es;  (14.10: no line end behind `return`)
    returns : {es : List Term} {a b c d : Text} → Token m a (word (codes "return")) b → same_line b ≡ true → Listed m es b c → Token m c semicolon d → Statement m (return_of (joined es)) a d
    -- es;  (14.5; a string alone would be a directive at the front of a body)
    expression : {es : List Term} {a b c : Text} → opens_otherwise a ≡ false → is_string_literal (joined es) ≡ false → Listed m es a b → Token m b semicolon c → Statement m (statement_of (joined es)) a c

  -- declarations (14.3.1, 15.2)
  pub data Declaration (m : Manner) : Term → Text → Text → Type 0 where
    -- const x = e;
    constant : {x : Text} {e : Term} {a b c d f g : Text} → is_reserved x ≡ false → 2 ≤ level e → Token m a (word (codes "const")) b → Token m b (word x) c → Token m c equals d → Stands m e d f → Token m f semicolon g → Declaration m (const_of x e) a g
    -- function x(xs) { ss }
    function : {x : Text} {xs : List Text} {ss : List Term} {a b c d e f g : Text} → is_reserved x ≡ false → Token m a (word (codes "function")) b → Token m b (word x) c → Token m c left_paren d → Parameters m xs d e → Token m e right_paren f → Body m ss f g → Declaration m (function_of x xs (all ss)) a g

-- ImportSpecifier (16.2.2): `x as y`, or `x` for `x as x`
pub data Specifier (m : Manner) : Term → Text → Text → Type 0 where
  renamed : {x y a b c d : Text} → is_reserved y ≡ false → Token m a (word x) b → Token m b (word (codes "as")) c → Token m c (word y) d → Specifier m (specifier_of x y) a d
  unrenamed : {x a b : Text} → is_reserved x ≡ false → Token m a (word x) b → Specifier m (specifier_of x x) a b

pub data Specifiers (m : Manner) : List Term → Text → Text → Type 0 where
  no_specifiers : {a : Text} → Specifiers m [] a a
  last_specifier : {s : Term} {a b : Text} → Specifier m s a b → Specifiers m (s ∷ []) a b
  and_specifier : {s t : Term} {ss : List Term} {a b c d : Text} → Specifier m s a b → Token m b comma c → Specifiers m (t ∷ ss) c d → Specifiers m (s ∷ t ∷ ss) a d

-- ModuleItem (16.2)
pub data Item (m : Manner) : Term → Text → Text → Type 0 where
  statement : {s : Term} {a b : Text} → Statement m s a b → Item m s a b
  -- import { ss } from 'source';
  imports : {ss : List Term} {source a b c d e f g h : Text} → Token m a (word (codes "import")) b → Token m b left_brace c → Specifiers m ss c d → Token m d right_brace e → Token m e (word (codes "from")) f → Token m f (string source) g → Token m g semicolon h → Item m (import_declaration_of (all ss) source) a h
  -- export d
  exports : {d : Term} {a b c : Text} → Token m a (word (codes "export")) b → Declaration m d b c → Item m (export_declaration_of d) a c

pub data Items (m : Manner) : List Term → Text → Text → Type 0 where
  no_more_items : {a : Text} → Items m [] a a
  next_item : {s : Term} {ss : List Term} {a b c : Text} → Item m s a b → Items m ss b c → Items m (s ∷ ss) a c

-- the whole text spells the module
pub data Spells (m : Manner) : Text → Term → Type 0 where
  spells : {ss : List Term} {a b : Text} → Items m ss a b → AtEnd b → Spells m a (program_of (all ss))
