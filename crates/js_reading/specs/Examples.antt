-- Small modules that are read, and small texts that are not. The law `worked_texts` says that each of these holds.
use Rattle.std.specs.Prelude.{◌≡◌, List, [], ◌∷◌, Bool, true, not, is_some, codes}
use Rattle.std.specs.List.{list_all}
use Rattle.js_term.specs.Term.{Text}
use Rattle.js_reading.specs.Read.{read_body}

unfoldable pub is_read : Text → Bool
is_read a = is_some (read_body a)

unfoldable pub is_refused : Text → Bool
is_refused a = not (is_read a)

-- the worked texts of `js_syntax`, each of which spells a module
abbrev pub first_texts : List Text
first_texts = codes "a\n(b)" ∷ codes "a\n++b" ∷ codes "a++\n(b)" ∷ codes "function f() { return\na }" ∷ codes "x\n/y/g" ∷ codes "a = b\n/c/d" ∷ codes "x = () => {}\n/y/g" ∷ codes "x = function () {}\n(y)" ∷ codes "function* f() { yield\ny }" ∷ codes "while (a) { break\nb }" ∷ codes "if (a) b\nelse c" ∷ codes "do x; while (y) z" ∷ codes "a/*\n*/b" ∷ codes "a // b\n.c" ∷ codes "async\nfunction f() {}" ∷ codes "let a\n[b] = c" ∷ codes "class A { ; get\n*x() {} }" ∷ codes "class A { get\nx() {} }" ∷ codes "class A { static\nx }" ∷ codes "class A { async\nx() {} }" ∷ codes "export { a }\nfrom 'b'" ∷ []

abbrev pub second_texts : List Text
second_texts = codes "export { a }\nb" ∷ codes "(a?.b).c" ∷ codes "a?.b.c(d)" ∷ codes "a?.[b]?.(c)" ∷ codes "a?.5:b" ∷ codes "a ** -b" ∷ codes "a ** b ** c" ∷ codes "a - b - c" ∷ codes "(a ?? b) || c" ∷ codes "a || b && c" ∷ codes "1..x" ∷ codes "1.0.x" ∷ codes "1 .x" ∷ codes "new new A()()" ∷ codes "new A" ∷ codes "new a.b(c).d" ∷ codes "new (a())()" ∷ codes "`a${b}c`" ∷ codes "a`b${`c`}d`" ∷ codes "async () => {}" ∷ codes "async x => x" ∷ []

abbrev pub third_texts : List Text
third_texts = codes "async (x)" ∷ codes "x => ({})" ∷ codes "(a, { b, c: [d] }, ...e) => a" ∷ codes "({a = 1} = b)" ∷ codes "[a, , ...b] = c" ∷ codes "[a, , ]" ∷ codes "a++ + ++b" ∷ codes "/[/\\]]\\//gi.test(a)" ∷ codes "x = { get a() { return 1 }, async *b() {}, [c]: d, e, ...f }" ∷ codes "x = '\\b\\t\\n\\v\\f\\r\\0\\x41\\u0042\\u{43}\\uD83D\\uDE00\\\n\\z'" ∷ codes "for (var i = (a in b); ;) ;" ∷ codes "for (a ? b in c : d; ;) ;" ∷ codes "function* f() { yield; yield a; yield* b }" ∷ codes "async function f() { await a }" ∷ codes "async function f() { for await (const x of y) ; }" ∷ codes "() => { 'use strict'; a }" ∷ codes "class A extends B { #x = 1; static { this.#x } constructor() { super() } }" ∷ codes "class A { 'constructor'() {} static constructor() {} ['constructor']() {} }" ∷ codes "class A { get() {} static() {} async() {} }" ∷ codes "x = class extends (a, b) {}" ∷ codes "class A { #x; f(o) { return #x in o } }" ∷ []

abbrev pub fourth_texts : List Text
fourth_texts = codes "'use strict'" ∷ codes "('use strict')" ∷ codes "'a' + b" ∷ codes "" ∷ codes "export default class {}" ∷ codes "export default () => {}\n(a)" ∷ codes "import d, { a as b, c } from 's'" ∷ codes "import 's'" ∷ codes "import a, * as b from 's'" ∷ codes "export * as n from 's'" ∷ codes "export { a, b as default }" ∷ codes "export { default, 'a' as b } from 's'" ∷ codes "export const a = 1, b = c" ∷ codes "l: for (const x of y) continue l" ∷ codes "try {} catch {}" ∷ codes "switch (a) { case 1: default: b }" ∷ codes "if (a) if (b) c; else d" ∷ codes "let { a, b: c = d, ...e } = f, [, g] = o" ∷ []

-- each of these spells none
abbrev pub refused_texts : List Text
refused_texts = codes "a b" ∷ codes "({ a = 1 })" ∷ codes "x = { a = 1 }" ∷ codes "[...a,] = b" ∷ codes "({ ...{ a } } = b)" ∷ codes "(a, ...b)" ∷ codes "(...a, b) => a" ∷ codes "a ?? b || c" ∷ codes "a || b ?? c" ∷ codes "-a ** b" ∷ codes "new a?.b()" ∷ codes "a?.b = c" ∷ codes "a?.b`c`" ∷ codes "f() = a" ∷ codes "(a) = b" ∷ codes "a++ ++" ∷ codes "() => {}()" ∷ codes "a => {} || b" ∷ codes "async (a)\n=> b" ∷ codes "for (async of a) ;" ∷ codes "for (let a = 1 of b) ;" ∷ codes "if (a) function f() {}" ∷ codes "if (a) ; else let b" ∷ codes "let a b" ∷ codes "let [a]\nb c" ∷ codes "var a\n, ," ∷ []

abbrev pub more_refused_texts : List Text
more_refused_texts = codes "do a while (b) c d" ∷ codes "throw\na" ∷ codes "try {}" ∷ codes "switch (a) { default: default: }" ∷ codes "class {}" ∷ codes "class A { constructor() {} get constructor() {} }" ∷ codes "class A { async constructor() {} }" ∷ codes "class A { a b }" ∷ codes "class A { get\n*f() {} get g }" ∷ codes "({ #a() {} })" ∷ codes "super.#a" ∷ codes "import.meta.a = import.b" ∷ codes "import { 'a' } from 'b'" ∷ codes "import a, { b } 'c'" ∷ codes "export { 'a' b }" ∷ codes "export default let a" ∷ codes "export a" ∷ codes "`${a`" ∷ codes "`${}`" ∷ codes "/a" ∷ codes "a /* b" ∷ codes "yield.a" ∷ codes "await.a => 1" ∷ codes "break a b" ∷ codes "@a" ∷ codes "l: let a" ∷ []

pub record Examples : Type 0 where
  pub first : list_all is_read first_texts ≡ true
  pub second : list_all is_read second_texts ≡ true
  pub third : list_all is_read third_texts ≡ true
  pub fourth : list_all is_read fourth_texts ≡ true
  pub refused : list_all is_refused refused_texts ≡ true
  pub more_refused : list_all is_refused more_refused_texts ≡ true
