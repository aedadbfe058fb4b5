-- The links that are made of a container are those of the file that it spells.
use Rattle.std.proofs.Common.{◌≡◌, ◌⊎◌, inl, inr, ℕ, zero, suc, ◌+◌, ◌-◌, ◌<◌, ◌≤◌, ◌^◌, min}
use Rattle.std.proofs.Common.{List, [], ◌∷◌, ◌++◌, map, length, take, get_or}
use Rattle.std.proofs.Common.{refl, sym, ap, subst, ◌∙◌, arith}
use Rattle.std.specs.List.{AllByRecursion}
use Rattle.std.proofs.lemmas.List.{length-map}
use Rattle.std.proofs.Math.ListN.{get_or-map}
use Rattle.ui_frame.specs.Container.{Parts, section}
use Rattle.ui_frame.specs.Sections.{number_of}
use Rattle.ui_frame.specs.declared.section.Section.{Section}
use Rattle.ui_frame.specs.declared.section.Section.TheVariants.{Str, Meta, PosBase, Pkg, Name}
use Rattle.ui_frame.specs.declared.section.Section.TheVariants.{Types, Obj, ObjExt, ObjDict, Body}
use Rattle.ui_strpos.specs.Contexts.{context, count_is}
use Rattle.ui_strpos.specs.Elements as one
use Rattle.ui_strpos.specs.FirstUses.{targets}
use Rattle.ui_strpos.specs.Format.{Format, ItemFits, InGrammar}
use Rattle.ui_strpos.specs.Items.{Item, target, spelling, written, nothing}
use Rattle.ui_strpos.specs.declared.shape.Shape.{Shape}
use Rattle.ui_strpos.specs.declared.target.Target.{Target}
use Rattle.ui_eobj.specs.Roots as root
use Rattle.ui_etype.specs.Types.{type_el}
use Rattle.ui_edecl.specs.Objects.{object}
use Rattle.ui_edecl.specs.Extensions.{extension}
use Rattle.ui_edecl.specs.Dictionaries.{dictionary}
use Rattle.ui_closure.specs.Reached as by_number
use Rattle.ui_file.specs.Files.{AllFrom, spelled_all, plain, any_shape, object_shape, extension_shape}
use Rattle.ui_file.specs.Rules.{In, uses_at, uses_of, count_in}
use Rattle.ui_file.specs.declared.file.File.{File}
use Rattle.ui_file_rules.specs.First.{section_at}
use Rattle.ui_file_rules.proofs.Places.{number-at, below-ten}
use Rattle.ui_sections.specs.Spelled.{IsSpelled}
use Rattle.std.proofs.lemmas.Bool.{cases_lt}
use Rattle.ui_stray.specs.Links.{total, before, number_in, AreStarts, AreLinked, table_at}
use Rattle.ui_stray.specs.Links.{target_number, targets_at, targets_beside, targets_of, links_of}
use Rattle.ui_stray.proofs.Linked.{IsBeside, Leads, AreLinks, ends}
use Rattle.ui_stray.proofs.Uses.{IsThere, used_there, in_table, of_table}

-- ---- lists

to_closure : {X : Type 0} (xs : List X) (x : X) → In xs x → by_number.In xs x
to_closure [] x m = absurd m
to_closure (y ∷ ys) x (inl e) = inl e
to_closure (y ∷ ys) x (inr m) = inr (to_closure ys x m)

of_closure : {X : Type 0} (xs : List X) (x : X) → by_number.In xs x → In xs x
of_closure [] x m = absurd m
of_closure (y ∷ ys) x (inl e) = inl e
of_closure (y ∷ ys) x (inr m) = inr (of_closure ys x m)

in_map : {X Y : Type 0} (f : X → Y) (xs : List X) (x : X) → In xs x → In (map f xs) (f x)
in_map f [] x m = absurd m
in_map f (y ∷ ys) x (inl e) = inl (ap f e)
in_map f (y ∷ ys) x (inr m) = inr (in_map f ys x m)

of_map : {X Y : Type 0} (f : X → Y) (xs : List X) (y : Y) → In (map f xs) y → (x : X) × In xs x
    × (f x ≡ y)
of_map f [] y m = absurd m
of_map f (z ∷ zs) y (inl e) = (z, inl refl, e)
of_map f (z ∷ zs) y (inr m) = let r = of_map f zs y m in (r.0, inr r.1, r.2)

in_left : {X : Type 0} (xs ys : List X) (x : X) → In xs x → In (xs ++ ys) x
in_left [] ys x m = absurd m
in_left (z ∷ zs) ys x (inl e) = inl e
in_left (z ∷ zs) ys x (inr m) = inr (in_left zs ys x m)

in_right : {X : Type 0} (xs ys : List X) (x : X) → In ys x → In (xs ++ ys) x
in_right [] ys x m = m
in_right (z ∷ zs) ys x m = inr (in_right zs ys x m)

in_either : {X : Type 0} (xs ys : List X) (x : X) → In (xs ++ ys) x → In xs x ⊎ In ys x
in_either [] ys x m = inr m
in_either (z ∷ zs) ys x (inl e) = inl (inl e)
in_either (z ∷ zs) ys x (inr m) = elim (in_either zs ys x m) [ inl l ↦ inl (inr l) | inr r ↦ inr r ]

-- one section more
pub next_total : (cs : List ℕ) (m : ℕ) → total (take (suc m) cs) ≡ total (take m cs) + get_or cs m 0
next_total [] zero = refl
next_total [] (suc m) = refl
next_total (c ∷ cs) zero =
    let e : total (take (suc zero) (c ∷ cs)) ≡ c + total (take zero cs) = refl in
    let z : total (take zero cs) ≡ 0 = none cs in
    let y : total (take zero (c ∷ cs)) ≡ 0 = refl in
    let f : get_or (c ∷ cs) zero 0 ≡ c = refl in
    omega arith
  where
    none : (cs : List ℕ) → total (take zero cs) ≡ 0
    none [] = refl
    none (c ∷ cs) = refl
next_total (c ∷ cs) (suc m) =
    let e : total (take (suc (suc m)) (c ∷ cs)) ≡ c + total (take (suc m) cs) = refl in
    let f : total (take (suc m) (c ∷ cs)) ≡ c + total (take m cs) = refl in
    let g : get_or (c ∷ cs) (suc m) 0 ≡ get_or cs m 0 = refl in
    let r = next_total cs m in
    omega arith

-- no section
none_before : (cs : List ℕ) → total (take zero cs) ≡ 0
none_before [] = refl
none_before (c ∷ cs) = refl

-- past a list there is nothing
default_at : (links : List (List ℕ)) (n : ℕ) → length links ≤ n → get_or links n [] ≡ []
default_at [] n le = refl
default_at (l ∷ ls) zero le = absurd (omega arith)
default_at (l ∷ ls) (suc n) le = default_at ls n (omega arith)

-- ---- a number is that of an element, or past all

module _ (parts : Parts) where
  first_sections : (m n : ℕ) → m ≤ 10
      → ((s : Section) × (k : ℕ) × (k < length (section s parts)) × (n ≡ number_in parts s k))
      ⊎ (before parts m ≤ n)
  first_sections zero n le = inr (let e : before parts 0
      ≡ 0 = none_before (map length parts) in omega arith)
  first_sections (suc m) n le = elim (first_sections m n (omega arith)) [
    | inl p ↦ inl p
    | inr past ↦ elim (cases_lt (n - before parts m) (length (section (section_at m) parts))) [
      | inl less ↦ (
          let at : number_of (section_at m) ≡ m = number-at m (omega arith) in
          let from = ap (before parts) at in
          inl (section_at m, n - before parts m, less, omega arith)
          )
      | inr more ↦ (
          let at : number_of (section_at m) ≡ m = number-at m (omega arith) in
          let c = count_is parts (section_at m) in
          let d = ap (λ (i : ℕ). get_or (map length parts) i 0) at in
          let next = next_total (map length parts) m in
          inr (omega arith)
          )
    ]
  ]

  pub locate : (n : ℕ) → ((s : Section) × (k : ℕ) × (k < length (section s parts))
      × (n ≡ number_in parts s k))
      ⊎ (before parts 10 ≤ n)
  locate n = first_sections 10 n (omega arith)

-- ---- the table of an element has what the element uses

-- what is known of the targets of an element
pub record AreTargets (parts : Parts) (uses table : List Target) : Type 0 where
  pub of : (u : Target) → In table u → In uses u
  pub has : (u : Target) → In uses u → In table u
  pub there : (u : Target) → In uses u → (u.section < 10)
      × (u.index < get_or (map length parts) u.section 0)

module _ (parts : Parts) where
  none_used : AreTargets parts [] []
  none_used = record { of = λ u m. m; has = λ u m. m; there = λ u m. absurd m }

  -- one element
  one_table : {A : Type 0} (f : Format A) (own : ℕ) (shape : Shape) (a : A) (bytes : List ℕ)
      → InGrammar f (context own shape parts) a → bytes ≡ spelling (f.items a)
      → AreTargets parts (targets (f.items a)) (table_at bytes)
  one_table f own shape a bytes g e =
      let c = context own shape parts in
      let is : List Item = f.items a in
      record {
        of = λ u m. of_table c is g.1 g.2 u (subst (λ (bs : List ℕ). In (table_at bs) u) e m);
        has = λ u m. subst (λ (bs : List ℕ). In (table_at bs) u) (sym e)
            (in_table c is g.1 g.2 u m);
        there = λ u m. (let t = used_there c is u g.1 m in (t.section, t.index));
      }

  -- an element of a section
  all_tables : {A : Type 0} (f : Format A) (shape : ℕ → Shape) (from : ℕ) (xs : List A) (k : ℕ)
      → AllFrom (λ j a. InGrammar f (context j (shape j) parts) a) from xs → k < length xs
      → AreTargets parts (uses_at f.items xs k) (table_at (get_or (spelled_all f xs) k []))
  all_tables f shape from [] k h lt = absurd (omega arith)
  all_tables f shape from (x ∷ xs) zero h lt =
      one_table f from (shape from) x (spelling (f.items x)) h.0 refl
  all_tables f shape from (x ∷ xs) (suc k) h lt = all_tables f shape (suc from) xs k h.1
      (omega arith)

  section_table : {A : Type 0} (f : Format A) (shape : ℕ → Shape) (xs : List A) (k : ℕ)
      (bs : List (List ℕ))
      → AllFrom (λ j a. InGrammar f (context j (shape j) parts) a) 0 xs → bs ≡ spelled_all f xs
      → k < length bs
      → AreTargets parts (uses_at f.items xs k) (table_at (get_or bs k []))
  section_table f shape xs k bs h e lt =
      let many : length bs ≡ length xs =
      ap (λ (l : List (List ℕ)). length l) e ∙ length-map xs (λ a. spelling (f.items a)) in
      subst (λ (l : List (List ℕ)). AreTargets parts (uses_at f.items xs k)
      (table_at (get_or l k []))) (sym e)
      (all_tables f shape 0 xs k h (omega arith))

  module _ (x : File) (spelled : IsSpelled parts x) where
    root_table : (k : ℕ) → k < 2
        → AreTargets parts (uses_of x Meta k) (table_at (get_or (section Meta parts) k []))
    root_table zero lt = one_table root.public_root 0 plain x.public
        (get_or (section Meta parts) 0 []) spelled.file.public spelled.public
    root_table (suc zero) lt = one_table root.private_root 1 plain x.private
        (get_or (section Meta parts) 1 []) spelled.file.private spelled.private
    root_table (suc (suc k)) lt = absurd (omega arith)

    pub tables : (s : Section) (k : ℕ) → k < length (section s parts)
        → AreTargets parts (uses_of x s k) (targets_at s (get_or (section s parts) k []))
    tables Str k lt = none_used
    tables Meta k lt = root_table k (let m = spelled.roots in omega arith)
    tables PosBase k lt = section_table one.posbase any_shape x.bases k
        (section PosBase parts) spelled.file.bases spelled.bases lt
    tables Pkg k lt = section_table one.pkg any_shape x.packages k
        (section Pkg parts) spelled.file.packages spelled.packages lt
    tables Name k lt = section_table one.name any_shape x.names k
        (section Name parts) spelled.file.names spelled.names lt
    tables Types k lt = section_table type_el any_shape x.types k
        (section Types parts) spelled.file.types spelled.types lt
    tables Obj k lt = section_table object
        (object_shape x.names (section ObjDict parts)) x.objects k
        (section Obj parts) spelled.file.objects spelled.objects lt
    tables ObjExt k lt = section_table extension
        (extension_shape x.names (section ObjDict parts) x.objects) x.extensions k
        (section ObjExt parts) spelled.file.extensions spelled.extensions lt
    tables ObjDict k lt = section_table dictionary any_shape x.dictionaries k
        (section ObjDict parts) spelled.file.dictionaries spelled.dictionaries lt
    tables Body k lt = absurd (let m = spelled.bodies in omega arith)

-- ---- what an element leads to

beside_in : (t : Section) (k : ℕ) → IsBeside t → In (targets_beside Obj k) (target (number_of t) k)
beside_in Str k b = absurd b
beside_in Meta k b = absurd b
beside_in PosBase k b = absurd b
beside_in Pkg k b = absurd b
beside_in Name k b = inl refl
beside_in Types k b = absurd b
beside_in Obj k b = absurd b
beside_in ObjExt k b = inr (inl refl)
beside_in ObjDict k b = inr (inr (inl refl))
beside_in Body k b = absurd b

-- an element that stands beside
record StandsBeside (s : Section) (k : ℕ) (u : Target) : Type 0 where
  of : s ≡ Obj
  at : Section
  is_beside : IsBeside at
  is : u ≡ target (number_of at) k

in_beside : (s : Section) (k : ℕ) (u : Target) → In (targets_beside s k) u → StandsBeside s k u
in_beside Str k u m = absurd m
in_beside Meta k u m = absurd m
in_beside PosBase k u m = absurd m
in_beside Pkg k u m = absurd m
in_beside Name k u m = absurd m
in_beside Types k u m = absurd m
in_beside Obj k u (inl e) = record { of = refl; at = Name; is_beside = tt; is = sym e }
in_beside Obj k u (inr (inl e)) = record { of = refl; at = ObjExt; is_beside = tt; is = sym e }
in_beside Obj k u (inr (inr (inl e))) = record
    { of = refl; at = ObjDict; is_beside = tt; is = sym e }
in_beside Obj k u (inr (inr (inr m))) = absurd m
in_beside ObjExt k u m = absurd m
in_beside ObjDict k u m = absurd m
in_beside Body k u m = absurd m

many_of : {A : Type 0} (f : Format A) (bs : List (List ℕ)) (xs : List A) → bs ≡ spelled_all f xs
    → length bs ≡ length xs
many_of f bs xs e = ap (λ (l : List (List ℕ)). length l) e
    ∙ length-map xs (λ a. spelling (f.items a))

module _ (parts : Parts) (x : File) (spelled : IsSpelled parts x) where
  beside_many : (t : Section) → IsBeside t → length (section t parts) ≡ length (section Obj parts)
  beside_many Str b = absurd b
  beside_many Meta b = absurd b
  beside_many PosBase b = absurd b
  beside_many Pkg b = absurd b
  beside_many Name b =
      many_of one.name _ x.names spelled.names ∙ sym spelled.file.as_many.0
      ∙ sym (many_of object _ x.objects spelled.objects)
  beside_many Types b = absurd b
  beside_many Obj b = absurd b
  beside_many ObjExt b =
      many_of extension _ x.extensions spelled.extensions ∙ spelled.file.as_many.1
      ∙ sym spelled.file.as_many.0 ∙ sym (many_of object _ x.objects spelled.objects)
  beside_many ObjDict b =
      many_of dictionary _ x.dictionaries spelled.dictionaries ∙ spelled.file.as_many.2
      ∙ sym spelled.file.as_many.0 ∙ sym (many_of object _ x.objects spelled.objects)
  beside_many Body b = absurd b

  pub leads_within : (s : Section) (k : ℕ) (t : Section) (i : ℕ) → k < length (section s parts)
      → Leads x s k t i → i < length (section t parts)
  leads_within s k t i lt l = elim l [
    | inl m ↦ (
        let there = (tables parts x spelled s k lt).there (target (number_of t) i) m in
        let c = count_is parts t in
        let less = there.1 in
        omega arith
        )
    | inr b ↦ (
        let many = beside_many t b.1 in
        let own = ap (λ (u : Section). length (section u parts)) b.0 in
        let same = b.2 in
        omega arith
        )
  ]

  leads_in : (s : Section) (k : ℕ) (t : Section) (i : ℕ) → k < length (section s parts)
      → Leads x s k t i
      → In (targets_of parts s k) (target (number_of t) i)
  leads_in s k t i lt l = elim l [
    | inl m ↦ in_left (targets_at s (get_or (section s parts) k [])) (targets_beside s k) _
        ((tables parts x spelled s k lt).has (target (number_of t) i) m)
    | inr b ↦ in_right (targets_at s (get_or (section s parts) k [])) (targets_beside s k) _
        (subst (λ (j : ℕ). In (targets_beside s k) (target (number_of t) j)) b.2
        (subst (λ (u : Section). In (targets_beside u k) (target (number_of t) k)) (sym b.0)
        (beside_in t k b.1)))
  ]

  -- a target that an element leads to
  record IsLed (s : Section) (k : ℕ) (u : Target) : Type 0 where
    at : Section
    place : ℕ
    leads : Leads x s k at place
    is : u ≡ target (number_of at) place

  in_leads : (s : Section) (k : ℕ) (u : Target) → k < length (section s parts)
      → In (targets_of parts s k) u → IsLed s k u
  in_leads s k u lt m =
      elim (in_either (targets_at s (get_or (section s parts) k [])) (targets_beside s k) u m) [
        | inl used ↦ (
            let table = tables parts x spelled s k lt in
            let uses = table.of u used in
            let same : target (number_of (section_at u.section)) u.index ≡ u =
            ap (λ (n : ℕ). target n u.index) (number-at u.section (table.there u uses).0) in
            record {
              at = section_at u.section;
              place = u.index;
              leads = inl (subst (λ (v : Target). In (uses_of x s k) v) (sym same) uses);
              is = sym same;
            }
            )
        | inr beside ↦ (
            let b = in_beside s k u beside in
            record { at = b.at; place = k; leads = inr (b.of, b.is_beside, refl); is = b.is }
            )
      ]

  module _ (starts : List ℕ) (started : AreStarts parts starts) where
    pub number_is : (t : Section) (i : ℕ) → i < length (section t parts)
        → target_number starts (target (number_of t) i) ≡ number_in parts t i
    number_is t i lt =
        let at = started.at (number_of t) (below-ten t) in
        let small = started.small in
        let end = ends parts t 10 (below-ten t) in
        omega arith

    module _ (links : List (List ℕ)) (linked : AreLinked starts parts 10 links) where
      links_at : (s : Section) (k : ℕ) → k < length (section s parts)
          → by_number.links_at links (number_in parts s k)
          ≡ map (target_number starts) (targets_of parts s k)
      links_at s k lt = linked.at s k (below-ten s) lt

      led : (s : Section) (k : ℕ) (t : Section) (i : ℕ) → k < length (section s parts)
          → Leads x s k t i
          → by_number.In (by_number.links_at links (number_in parts s k)) (number_in parts t i)
      led s k t i lt l =
          subst (λ (js : List ℕ). by_number.In js (number_in parts t i)) (sym (links_at s k lt))
          (to_closure _ _ (subst (λ (j : ℕ). In
          (map (target_number starts) (targets_of parts s k)) j)
          (number_is t i (leads_within s k t i lt l))
          (in_map (target_number starts) (targets_of parts s k) (target (number_of t) i)
          (leads_in s k t i lt l))))

      only : (s : Section) (k j : ℕ) → k < length (section s parts)
          → by_number.In (by_number.links_at links (number_in parts s k)) j
          → (t : Section) × (i : ℕ) × Leads x s k t i × (j ≡ number_in parts t i)
      only s k j lt m =
          let numbers = of_closure _ j (subst (λ (js : List ℕ). by_number.In js j)
          (links_at s k lt) m) in
          let found = of_map (target_number starts) (targets_of parts s k) j numbers in
          let led = in_leads s k found.0 lt found.1 in (
            led.at,
            led.place,
            led.leads,
            sym found.2 ∙ ap (target_number starts) led.is
                ∙ number_is led.at led.place (leads_within s k led.at led.place lt led.leads),
          )

      abbrev roots : List ℕ
      roots = target_number starts (target 1 0) ∷ target_number starts (target 1 1) ∷ []

      root_at : (k : ℕ) → k < 2 → target_number starts (target 1 k) ≡ number_in parts Meta k
      root_at k lt = number_is Meta k (let m = spelled.roots in omega arith)

      root_in : (k : ℕ) → k < 2 → by_number.In roots (number_in parts Meta k)
      root_in zero lt = inl (root_at 0 lt)
      root_in (suc zero) lt = inr (inl (root_at 1 lt))
      root_in (suc (suc k)) lt = absurd (omega arith)

      root_only : (j : ℕ) → by_number.In roots j → (k : ℕ) × (k < 2) × (j ≡ number_in parts Meta k)
      root_only j (inl e) = (0, omega arith, sym e ∙ root_at 0 (omega arith))
      root_only j (inr (inl e)) = (1, omega arith, sym e ∙ root_at 1 (omega arith))
      root_only j (inr (inr m)) = absurd m

      pub are_links : AreLinks parts x links roots
      are_links = record {
        roots_are = root_in;
        roots_only = root_only;
        two = spelled.roots;
        within = leads_within;
        links_are = led;
        links_only = only;
      }

      -- links and roots lead to numbers that there are
      pub links_within : (n : ℕ) → by_number.AreWithin (before parts 10)
          (by_number.links_at links n)
      links_within n = λ j m. elim (find n) [
        | inl p ↦ (
            let q = only p.0 p.1 j p.2 (subst
            (λ (i : ℕ). by_number.In (by_number.links_at links i) j) p.3 m) in
            let less = leads_within p.0 p.1 q.0 q.1 p.2 q.2 in
            let end = ends parts q.0 10 (below-ten q.0) in
            let is = q.3 in
            omega arith
            )
        | inr past ↦ absurd (subst (λ (js : List ℕ). by_number.In js j)
            (default_at links n (let s = linked.size in omega arith)) m)
      ]
        where
          find : (n : ℕ) → ((s : Section) × (k : ℕ) × (k < length (section s parts))
              × (n ≡ number_in parts s k)) ⊎ (before parts 10 ≤ n)
          find n = locate parts n

      pub roots_within : by_number.AreWithin (before parts 10) roots
      roots_within = λ j m.
          let r = root_only j m in
          let less = r.1 in
          let two = spelled.roots in
          let end = ends parts Meta 10 (omega arith) in
          let is = r.2 in
          omega arith

-- as many elements as the container has
pub same_count : (parts : Parts) (x : File) → IsSpelled parts x → (s : Section)
    → length (section s parts) ≡ count_in x s
same_count parts x h Str = ap (λ (l : List (List ℕ)). length l) h.texts
same_count parts x h Meta = h.roots
same_count parts x h PosBase = many_of one.posbase _ x.bases h.bases
same_count parts x h Pkg = many_of one.pkg _ x.packages h.packages
same_count parts x h Name = many_of one.name _ x.names h.names
same_count parts x h Types = many_of type_el _ x.types h.types
same_count parts x h Obj = many_of object _ x.objects h.objects
same_count parts x h ObjExt = many_of extension _ x.extensions h.extensions
same_count parts x h ObjDict = many_of dictionary _ x.dictionaries h.dictionaries
same_count parts x h Body = h.bodies
