mod FormLemmas
