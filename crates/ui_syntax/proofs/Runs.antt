-- Lists whose parts are read one after the other: those that were read, with what may follow them.
use Rattle.std.proofs.Common.{◌≡◌, List, [], ◌∷◌, ◌++◌, sym, ap, subst, ◌∙◌, append_assoc}
use Rattle.std.proofs.lemmas.List.{append-nil}
use Rattle.ui_grammar.specs.Word.{Word}
use Rattle.ui_grammar.proofs.Frames.{Spelling, Framed}
use Rattle.ui_syntax.proofs.ByBudget.{Begun}

-- a form with this property
pub record FormOf {X : Type 0} (R : X → Spelling) (Ok : X → Type 0) (ts rest : List Word) : Type 0 where
  pub all : X
  pub spells : R all ts rest
  pub ok : Ok all

-- What was read up to ws makes a form of what goes on from there.
pub record Lead {X Y : Type 0} (S : X → Spelling) (T : Y → Spelling) (f : X → Y) (ts ws : List Word) : Type 0 where
  pub front : List Word
  pub parts : ts ≡ front ++ ws
  pub again : (x : X) (k rest : List Word) → S x k rest → T (f x) (front ++ k) rest

-- a further part is read
pub lead_next : {X Y Z : Type 0} {S : X → Spelling} {T : Y → Spelling} {S2 : Z → Spelling} {R : Spelling} (f : X → Y) (g : Z → X) (ts a ws : List Word) → Lead S T f ts a → Framed R a ws
    → ((z : Z) (a k rest : List Word) → R a k → S2 z k rest → S (g z) a rest) → Lead S2 T (λ z. f (g z)) ts ws
lead_next {T = T} f g ts a ws run r join = record {
  front = run.front ++ r.front;
  parts = run.parts ∙ ap (λ (v : List Word). run.front ++ v) r.parts ∙ sym (append_assoc run.front r.front ws);
  again = λ z k rest h.
      subst (λ (v : List Word). T (f (g z)) v rest) (sym (append_assoc run.front r.front k)) (run.again (g z) (r.front ++ k) rest (join z (r.front ++ k) k rest (r.again k) h));
}

-- the same words lead so too
pub lead_as : {X Y Z : Type 0} {S : X → Spelling} {T : Y → Spelling} {S2 : Z → Spelling} (f : X → Y) (g : Z → X) (ts ws : List Word) → Lead S T f ts ws
    → ((z : Z) (k rest : List Word) → S2 z k rest → S (g z) k rest) → Lead S2 T (λ z. f (g z)) ts ws
lead_as f g ts ws run join = record { front = run.front; parts = run.parts; again = λ z k rest h. run.again (g z) k rest (join z k rest h) }

pub lead_same : {X Y : Type 0} {S : X → Spelling} {T : Y → Spelling} (f g : X → Y) (ts ws : List Word) → Lead S T f ts ws → ((x : X) → f x ≡ g x) → Lead S T g ts ws
lead_same {T = T} f g ts ws run same = record { front = run.front; parts = run.parts; again = λ x k rest h. subst (λ v. T v (run.front ++ k) rest) (same x) (run.again x k rest h) }

pub lead_whole : {X Y : Type 0} {S : X → Spelling} {T : Y → Spelling} (f : X → Y) (ts ws rest : List Word) (x : X) → Lead S T f ts ws → S x ws rest → T (f x) ts rest
lead_whole {T = T} f ts ws rest x run h = subst (λ (v : List Word). T (f x) v rest) (sym run.parts) (run.again x ws rest h)

pub lead_begun : {X Y : Type 0} {S : X → Spelling} {T : Y → Spelling} {Ok1 : X → Type 0} {Ok2 : Y → Type 0} (f : X → Y) (ts ws rest : List Word) → Lead S T f ts ws → ((x : X) → Ok1 x → Ok2 (f x)) → Begun (FormOf S Ok1) ws rest → Begun (FormOf T Ok2) ts rest
lead_begun {T = T} {Ok2 = Ok2} f ts ws rest run join g = record {
  front = run.front ++ g.front;
  parts = run.parts ∙ ap (λ (v : List Word). run.front ++ v) g.parts ∙ sym (append_assoc run.front g.front rest);
  more = g.more;
  spells = λ k.
      let h = g.spells k in
      subst (λ (v : List Word). FormOf T Ok2 v k) (sym (append_assoc run.front g.front (g.more ++ k)))
      (record { all = f h.all; spells = run.again h.all (g.front ++ (g.more ++ k)) k h.spells; ok = join h.all h.ok });
}

-- these parts stand in front, and what goes on with the tail of a list makes them a list
abbrev pub Run : {I : Type 0} (Tail Whole : List I → Spelling) (items : List I) (ts ws : List Word) → Type 0
Run Tail Whole items = Lead Tail Whole (λ us. items ++ us)

module _ {I : Type 0} (Tail Whole : List I → Spelling) where
  -- a first part
  pub run_first : {R : Spelling} (i : I) (ts ws : List Word) → Framed R ts ws → ((us : List I) (a k rest : List Word) → R a k → Tail us k rest → Whole (i ∷ us) a rest) → Run Tail Whole (i ∷ []) ts ws
  run_first i ts ws f join = record { front = f.front; parts = f.parts; again = λ us k rest h. join us (f.front ++ k) k rest (f.again k) h }

  -- one part more
  pub run_next : {R : Spelling} (items : List I) (i : I) (ts a ws : List Word) → Run Tail Whole items ts a → Framed R a ws → ((us : List I) (a k rest : List Word) → R a k → Tail us k rest → Tail (i ∷ us) a rest) → Run Tail Whole (items ++ (i ∷ [])) ts ws
  run_next items i ts a ws run f join = lead_same (λ us. items ++ (i ∷ us)) (λ us. (items ++ (i ∷ [])) ++ us) ts ws (lead_next (λ us. items ++ us) (λ us. i ∷ us) ts a ws run f join) (λ us. sym (append_assoc items (i ∷ []) us))

  -- nothing but the end follows
  pub run_end : (items : List I) (ts ws rest : List Word) → Run Tail Whole items ts ws → Tail [] ws rest → Whole items ts rest
  run_end items ts ws rest run h = subst (λ (v : List I). Whole v ts rest) (append-nil items) (lead_whole (λ us. items ++ us) ts ws rest [] run h)

  -- what follows is begun
  pub run_begun : {Ok1 Ok2 : List I → Type 0} (items : List I) (ts ws rest : List Word) → Run Tail Whole items ts ws → ((us : List I) → Ok1 us → Ok2 (items ++ us)) → Begun (FormOf Tail Ok1) ws rest → Begun (FormOf Whole Ok2) ts rest
  run_begun items ts ws rest run join g = lead_begun (λ us. items ++ us) ts ws rest run join g
