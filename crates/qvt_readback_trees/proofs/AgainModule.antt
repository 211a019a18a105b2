-- A transformation is printed and read again as its shape.
use Rattle.std.proofs.Common.{◌≡◌, ℕ, suc, List, [], ◌∷◌, ◌++◌, map, inl, inr, refl, sym, ap, ◌∙◌, subst, append_assoc, pos}
use Rattle.std.specs.Prelude.{⊤}
use Rattle.qvt_tree_types.specs.Module.{UnitTerm, ModuleTerm}
use Rattle.qvt_tree_types.specs.declared.module.ModelParam.{ModelParam}
use Rattle.qvt_tree_types.specs.declared.words.Direction.{Direction}
use Rattle.qvt_tree_types.specs.declared.words.Direction.TheVariants as directions
use Rattle.qvt_tree.specs.Shape.{nowhere}
use Rattle.qvt_tree.specs.ModuleShape.{erase_unit, erase_model_type, erase_model_param, shape}
use Rattle.qvt_grammar.specs.Language.{Language, turns, made, either}
use Rattle.qvt_language.specs.declared.named.Named.{Named}
use Rattle.qvt_language.specs.declared.class.Class.{Class}
use Rattle.qvt_language.specs.declared.class.Class.TheVariants as class
use Rattle.qvt_language.specs.Readers.{the}
use Rattle.qvt_language.specs.Tokens.{Tok}
use Rattle.qvt_language.specs.Trees.{second, first, inner, cons_of, nothing, text_of}
use Rattle.qvt_language.specs.Grammar.{NestedLanguages}
use Rattle.qvt_language.specs.Units.{unit, uri, model_type, model_param, header, transformation, strictness}
use Rattle.qvt_language.specs.UnitTrees.{some_unit, units_of, model_type_of, model_param_of, direction_of, module_of}
use Rattle.qvt_language.specs.Module.{ReadsModule}
use Rattle.qvt_printer_layout.specs.declared.piece.PrintPiece.{PrintPiece}
use Rattle.qvt_printer_layout.specs.declared.piece.PrintPiece.TheVariants as piece
use Rattle.qvt_printer_layout.specs.Words as words
use Rattle.qvt_printer.specs.Expressions as print
use Rattle.qvt_printer.specs.Units as printed
use Rattle.qvt_printer.specs.Units.{module_pieces}
use Rattle.qvt_readback_tokens.specs.Spelled.{all_spelled}
use Rattle.qvt_readback_trees.specs.Printable.{IsPrintableUnit, ArePrintableUnits, IsPrintable}
use Rattle.qvt_readback_tokens.proofs.Classes.{is_itself}
use Rattle.qvt_readback_trees.proofs.Spelling.{plain, spelled_append}
use Rattle.qvt_readback_trees.proofs.Again.{Again, any, again_the, again_word, again_name_token, again_then, again_made, again_either, again_one, again_many, again_placed, again_left_out}
use Rattle.qvt_readback_trees.proofs.AgainNames.{again_name, bare_named}
use Rattle.qvt_readback_trees.proofs.UnitBase.{AgainUnits, again_units}
use Rattle.qvt_readback_trees.proofs.AgainUnits.{again_class_unit, again_main_unit, again_helper_unit, again_constructor_unit}
use Rattle.qvt_readback_trees.proofs.AgainMappings.{again_mapping_unit}

-- model types and the header

again_uri : Again any (λ (u : List ℕ). piece.Quoted u ∷ []) (λ u. u) uri uri
unfolding uri
again_uri = record { again = λ ts u rd o. inl (record { class = class.Str; text = u; number = pos 0; place = nowhere }, (refl, refl), refl) }

abbrev pub TypeParts : Type 0
TypeParts = Named × List ℕ

abbrev pub bare_parts : TypeParts → TypeParts
bare_parts x = (bare_named x.0, x.1)

again_model_type : Again any printed.model_type erase_model_type model_type model_type
unfolding model_type
again_model_type = again_made model_type_of (again_placed (again_made {ok2 = any} {p2 = λ (x : TypeParts). piece.Plain class.ModelTypeWord ∷ piece.Name x.0.text ∷ piece.Plain class.UsesWord ∷ piece.Quoted x.1 ∷ piece.Plain class.Semicolon ∷ []} {b2 = bare_parts} second
    (again_then (again_the class.ModelTypeWord) (again_then again_name (again_made {ok2 = any} {p2 = λ (u : List ℕ). piece.Plain class.UsesWord ∷ piece.Quoted u ∷ piece.Plain class.Semicolon ∷ []} {b2 = λ u. u} second (again_then (again_left_out {l = strictness} {m = strictness})
    (again_made {ok2 = any} {p2 = λ (u : List ℕ). piece.Plain class.UsesWord ∷ piece.Quoted u ∷ piece.Plain class.Semicolon ∷ []} {b2 = λ u. u} inner (again_then (again_the class.UsesWord) (again_then again_uri (again_the class.Semicolon))) (λ a o. (tt, (tt, tt))) (λ a. refl) (λ a. refl)))
    (λ a o. (tt, tt)) (λ a. refl) (λ a. refl))))
    (λ a o. (tt, (tt, tt))) (λ a. refl) (λ a. refl)))
    (λ a o. tt) (λ a. refl) (λ a. refl)

abbrev direction_class : Class → Class
direction_class c = words.direction_word (direction_of c)

direction_kept : (d : Direction) → direction_of (words.direction_word d) ≡ d
direction_kept directions.Input = refl
direction_kept directions.Output = refl
direction_kept directions.Both = refl

again_direction : Again any (λ (t : Tok). print.one (direction_class t.class)) (λ t. plain (direction_class t.class)) (either (the class.InWord) (either (the class.OutWord) (the class.InoutWord))) (either (the class.InWord) (either (the class.OutWord) (the class.InoutWord)))
again_direction = again_one (again_word class.InWord class.InWord direction_class refl _ (inl (refl, is_itself class.InWord)))
    (again_one (again_word class.OutWord class.OutWord direction_class refl _ (inr (inl (refl, is_itself class.OutWord))))
    (again_word class.InoutWord class.InoutWord direction_class refl _ (inr (inr (refl, is_itself class.InoutWord)))))

again_model_param : Again any printed.model_param erase_model_param model_param model_param
unfolding model_param
again_model_param = again_made model_param_of (again_then again_direction (again_then again_name (again_made {ok2 = any} {p2 = λ (n : Named). piece.Plain class.Colon ∷ piece.Name n.text ∷ []} {b2 = bare_named} second (again_then (again_the class.Colon) again_name) (λ a o. (tt, tt)) (λ a. refl) (λ a. refl))))
    (λ a o. (tt, (tt, tt))) (λ a. refl) (λ a k. record { direction = sym (direction_kept (direction_of a.0.class)) k; name = a.1.0.text; model_type = a.1.1.text; place = nowhere })

abbrev pub Header : Type 0
Header = List ℕ × List ModelParam

abbrev header_pieces : Header → List PrintPiece
header_pieces x = print.ended (piece.Plain class.TransformationWord ∷ piece.Name x.0 ∷ print.in_round (printed.model_params x.1))

abbrev pub bare_header : Header → Header
bare_header x = (x.0, map erase_model_param x.1)

again_header : Again any header_pieces bare_header header header
unfolding header
again_header = again_made second (again_then (again_the class.TransformationWord) (again_then (again_made {ok2 = any} {p2 = λ (n : List ℕ). piece.Name n ∷ []} {b2 = λ n. n} text_of again_name_token (λ a o. tt) (λ a. refl) (λ a. refl))
    (again_made {ok2 = any} {p2 = λ (ps : List ModelParam). piece.Plain class.OpenRound ∷ (printed.model_params ps ++ (piece.Plain class.CloseRound ∷ piece.Plain class.Semicolon ∷ []))} {b2 = map erase_model_param} inner (again_then (again_the class.OpenRound) (again_then
    (again_made {ok2 = any} {p2 = printed.model_params} {b2 = map erase_model_param} cons_of (again_then again_model_param (again_many (again_made {ok2 = any} {p2 = λ (p : ModelParam). piece.Plain class.Comma ∷ printed.model_param p} {b2 = erase_model_param} second (again_then (again_the class.Comma) again_model_param) (λ a o. (tt, tt)) (λ a. refl) (λ a. refl))
    any (λ a more o. (tt, tt)) printed.more_model_params refl (λ a more. refl)))
    (λ a o. (tt, tt)) (λ a. refl) (λ a. refl))
    (again_made {ok2 = any} {p2 = λ _. piece.Plain class.CloseRound ∷ piece.Plain class.Semicolon ∷ []} {b2 = λ _. plain class.CloseRound} first (again_then (again_the class.CloseRound) (again_the class.Semicolon)) (λ a o. (tt, tt)) (λ a. refl) (λ a. refl))))
    (λ a o. (tt, (tt, tt))) (λ a. refl) (λ a. refl))))
    (λ a o. (tt, (tt, tt)))
    (λ a. ap (λ z. plain class.TransformationWord ∷ all_spelled (piece.Name a.1.0 ∷ piece.Plain class.OpenRound ∷ z)) (append_assoc (printed.model_params a.1.1) (print.one class.CloseRound) (print.one class.Semicolon)))
    (λ a. refl)

-- units

module _ {i j : NestedLanguages} (h : AgainUnits i j) where
  again_unit : Again IsPrintableUnit printed.unit erase_unit (unit i) (unit j)
  unfolding unit
  again_unit = again_either (again_class_unit h) (again_either (again_main_unit h) (again_either (again_constructor_unit h) (again_either (again_mapping_unit h) (again_helper_unit h))))

  abbrev GoodUnit : UnitTerm → Type 0
  GoodUnit u = IsPrintableUnit u → (unit j).reads (all_spelled (printed.unit u)) (erase_unit u)

  abbrev GoodUnits : List UnitTerm → Type 0
  GoodUnits [] = ⊤
  GoodUnits (u ∷ us) = GoodUnit u × GoodUnits us

  abbrev Item : NestedLanguages → Language Tok (List UnitTerm)
  Item n = either (made nothing (the class.Semicolon)) (made some_unit (unit n))

  append_good : (xs ys : List UnitTerm) → GoodUnits xs → GoodUnits ys → GoodUnits (xs ++ ys)
  append_good [] ys g k = k
  append_good (x ∷ xs) ys g k = (g.0, append_good xs ys g.1 k)

  item_good : (ts : List Tok) (us : List UnitTerm) → (Item i).reads ts us → GoodUnits us
  item_good ts us rd = elim rd [
    | inl q ↦ subst GoodUnits (sym q.2) tt
    | inr q ↦ subst GoodUnits (sym q.2) (again_unit.again ts q.0 q.1, tt)
  ]

  units_good : (got : List (List UnitTerm)) (ts : List Tok) → turns (Item i) ts got → GoodUnits (units_of got)
  units_good [] ts rd = tt
  units_good (us ∷ got) ts rd = append_good us (units_of got) (item_good rd.0 us rd.3) (units_good got rd.1 rd.4)

  abbrev one_each : List UnitTerm → List (List UnitTerm)
  one_each [] = []
  one_each (u ∷ us) = (erase_unit u ∷ []) ∷ one_each us

  one_each_units : (us : List UnitTerm) → units_of (one_each us) ≡ map erase_unit us
  one_each_units [] = refl
  one_each_units (u ∷ us) = ap (λ z. erase_unit u ∷ z) (one_each_units us)

  units_read : (us : List UnitTerm) → GoodUnits us → ArePrintableUnits us → turns (Item j) (all_spelled (printed.units us)) (one_each us)
  units_read [] g o = refl
  units_read (u ∷ us) g o = (all_spelled (printed.unit u), all_spelled (printed.units us), spelled_append (printed.unit u) (piece.Line ∷ printed.units us), inr (erase_unit u, g.0 o.0, refl), units_read us g.1 o.1)

  again_transformation : (ts : List Tok) (m : ModuleTerm) → (transformation i).reads ts m → IsPrintable m → (transformation j).reads (all_spelled (printed.module_pieces m)) (shape m)
  unfolding transformation module_pieces shape
  again_transformation ts m rd o =
      let a = rd.0 in
      let w = rd.1 in
      let types = a.0 in
      let head = a.1.0 in
      let us = units_of a.1.1 in
      let ok = subst IsPrintable rd.2 o in
      let tp = printed.model_types types in
      let hp = header_pieces head in
      let up = printed.units us in
      let read_types = (again_many again_model_type any (λ x more k. (tt, tt)) printed.model_types refl (λ x more. spelled_append (printed.model_type x) (piece.Line ∷ printed.model_types more) ∙ sym (spelled_append (printed.model_type x) (printed.model_types more)))).again w.0 types w.3 tt in
      let read_header = again_header.again w.4.0 head w.4.3 tt in
      let read_units = units_read us (units_good a.1.1 w.4.1 w.4.4) ok in
      let cut : all_spelled (tp ++ (hp ++ (piece.Line ∷ up))) ≡ all_spelled tp ++ (all_spelled hp ++ all_spelled up) = spelled_append tp (hp ++ (piece.Line ∷ up)) ∙ ap (λ z. all_spelled tp ++ z) (spelled_append hp (piece.Line ∷ up)) in
      let value : shape (module_of a) ≡ module_of (map erase_model_type types, (bare_header head, one_each us)) = ap (λ z. record { model_types = map erase_model_type types; name = head.0; params = map erase_model_param head.1; units = z; end = nowhere }) (sym (one_each_units us)) in
      let all : (transformation j).reads (all_spelled (tp ++ (hp ++ (piece.Line ∷ up)))) (shape (module_of a)) =
      ((map erase_model_type types, (bare_header head, one_each us)), (all_spelled tp, all_spelled hp ++ all_spelled up, cut, read_types, (all_spelled hp, all_spelled up, refl, read_header, read_units)), value) in
      subst (λ z. (transformation j).reads (all_spelled (printed.module_pieces z)) (shape z)) (sym rd.2) all

-- what is printed of what was read is read as the tree without places
pub again_module : (ts : List Tok) (m : ModuleTerm) → ReadsModule ts m → IsPrintable m → ReadsModule (all_spelled (printed.module_pieces m)) (shape m)
again_module ts m rd o = record { nesting = suc rd.nesting; reads = again_transformation (again_units rd.nesting) ts m rd.reads o }
