mod ReadSteps
